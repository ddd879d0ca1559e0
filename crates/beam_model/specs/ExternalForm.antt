-- The forms of the format by their tags.
use Rattle.std.specs.Prelude.{ℕ, ◌==◌, if◌then◌else◌}
use Rattle.beam_model.specs.ExternalFault.{is_left_out}
use Rattle.beam_model.specs.declared.external.Form.{Form}
use Rattle.beam_model.specs.declared.external.Form.TheVariants.{SmallInteger, Integer, SmallBig, Nil, String, List, SmallTuple, LargeTuple, SmallAtom, LongAtom, Pid, Reference, LeftOut, Unknown}

unfoldable pub form_of : ℕ → Form
form_of tag =
    if tag == 97 then SmallInteger
    else (if tag == 98 then Integer
    else (if tag == 110 then SmallBig
    else (if tag == 106 then Nil
    else (if tag == 107 then String
    else (if tag == 108 then List
    else (if tag == 104 then SmallTuple
    else (if tag == 105 then LargeTuple
    else (if tag == 119 then SmallAtom
    else (if tag == 118 then LongAtom
    else (if tag == 88 then Pid
    else (if tag == 90 then Reference
    else (if is_left_out tag then LeftOut else Unknown))))))))))))
