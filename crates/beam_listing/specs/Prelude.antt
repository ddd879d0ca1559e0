-- The definitions of this crate that specs and proofs above cite, passed on from one place. Declares nothing.
pub use Rattle.beam_listing.specs.BracketForm.{AreBlanks, AreBracketed, AreEach, AreElements, AreListed, ArePair, HasNoMargin, IsBalanced, IsElement, IsPlain, IsQuote, IsQuoted, brace_pair, bracketed, commented, empty, escape, no_byte, one_byte, plain, quoted, round_pair, square_pair}
pub use Rattle.beam_listing.specs.ItemForm.{IsAttributesForm, IsBif0Form, IsBifForm, IsCall, IsExportsForm, IsFunctionForm, IsGcBifForm, IsInstructionForm, IsItemForm, IsLabelsForm, IsLineForm, IsModuleForm, IsPlainForm, IsRaiseBif, IsRaiseForm, IsShaped, IsSignature, IsTestForm}
pub use Rattle.beam_listing.specs.ListingForm.{AreForms, AreInFunctions, IsForm, IsListingText, functions_in, instructions_in}
pub use Rattle.beam_listing.specs.OperandForm.{AreMembers, BeginsWithDigit, IsAtom, IsConstant, IsHeaded, IsInteger, IsLabel, IsMember, IsNative, IsNumber, IsPlainRegister, IsRegister, IsSource, IsTagged, IsTermText, IsTypedRegister}
pub use Rattle.beam_listing.specs.Printed.{ArgumentHasText, HasListingText, OperandHasText, OperandsHaveText, TermsHaveText, is_any_import, is_any_list, is_any_register, is_any_source, is_built_in, is_of_kind, is_raise_two}
pub use Rattle.beam_listing.specs.Reads.{body_of}
pub use Rattle.beam_listing.specs.Typed.{IsArgument, IsExport, IsListing}
pub use Rattle.beam_listing.specs.WorkedForm.{moves_ok}
