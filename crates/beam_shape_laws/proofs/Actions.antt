-- Each action of a row that finds what it names leaves a process that is shaped, where the row goes on to places that fit.
use Rattle.std.proofs.Common.{◌≡◌, ℕ, ◌+◌, ◌==◌, ◌&&◌, nat_lt, Bool, true, false, cond, not, List, [], ◌∷◌, ◌++◌, length, refl, sym, ap, subst, ◌∙◌, true≢false, append-nil, length-set, Option, Some, None, Result, Ok, Err, is_ok, is_some, IsTrue, map, nat_le, slice_set, option_map, replicate, drop, codes}
use Rattle.std.proofs.Math.ListN.{set}
use Rattle.std.proofs.lemmas.Bool.{and_parts}
use Rattle.std.specs.List.{AllByRecursion, list_all, flat_map}
use Rattle.std.proofs.lemmas.Option.{same_Some}
use Rattle.beam_model.specs.declared.exception.Class.{Class}
use Rattle.beam_model.specs.declared.exception.Exception.{Exception}
use Rattle.beam_model.specs.declared.exception.Fault.{Fault}
use Rattle.beam_model.specs.declared.exception.Fault.TheVariants.{IllegalOperand, SystemLimit, Undef, Badarg, TimeoutValue}
use Rattle.beam_model.specs.declared.instruction.Instruction.{Instruction}
use Rattle.beam_model.specs.declared.native.Nullary.{Nullary}
use Rattle.beam_model.specs.declared.native.Unary.{Unary}
use Rattle.beam_model.specs.declared.native.Binary.{Binary}
use Rattle.beam_model.specs.Prelude.{bare, sized, any, is_there as is_there_in, put_ys, put_all, after_effect, trims as trims_by, is_total, row_of_label, Mailbox, compares, is_of_type, is_equal, limited_term as made_term, nullary_value, unary_value, binary_value, native_value, truth, is_exit, Place, Shape}
use Rattle.beam_model.specs.declared.native.ProcessNative.{ProcessNative}
use Rattle.beam_model.specs.declared.native.Native.{Native}
use Rattle.beam_term.specs.Prelude.{TermValue, nil_term, atom_term, pid_term, pair_term, tuple_term, tuple_of, elements_of, count_of}
use Rattle.beam_model.specs.declared.exception.Exception.TheVariants as exception
use Rattle.beam_model.specs.declared.native.Native.TheVariants as native
use Rattle.beam_model.specs.declared.native.Nullary.TheVariants as nullary
use Rattle.beam_model.specs.declared.native.Unary.TheVariants as unary
use Rattle.beam_model.specs.declared.native.Binary.TheVariants as binary
use Rattle.beam_laws.proofs.Demonitoring.{answers_keep}
use Rattle.beam_machine.specs.declared.action.Choice.{Choice}
use Rattle.beam_machine.specs.declared.action.OnFault.{OnFault}
use Rattle.beam_machine.specs.declared.action.OnFault.TheVariants.{Raises, Goes as GoesTo}
use Rattle.beam_machine.specs.declared.action.Register.{Register}
use Rattle.beam_machine.specs.declared.action.SizeChoice.{SizeChoice}
use Rattle.beam_machine.specs.declared.action.Update.{Update}
use Rattle.beam_machine.specs.declared.callee.After.{After}
use Rattle.beam_machine.specs.declared.callee.After.TheVariants.{NextRow, Return}
use Rattle.beam_machine.specs.declared.callee.Callee.{Callee}
use Rattle.beam_machine.specs.declared.process.Deadline.{Deadline}
use Rattle.beam_machine.specs.declared.process.Frame.{Frame}
use Rattle.beam_machine.specs.declared.process.Slot.{Slot}
use Rattle.beam_machine.specs.declared.process.Slot.TheVariants.{Value, Tag as TagSlot}
use Rattle.beam_machine.specs.declared.process.Status.TheVariants.{Running}
use Rattle.beam_machine.specs.Prelude.{Code, entry_of, Process, normal, read, read_x, put, put_x, put_y, with_slots, dropped, words_of, own_pid, bared, with_y, Outcome, makes, sends, asks, sleeps, goes_on, goes_to, changes, stores, stores_made, stores_second, stores_two, decides, has_size, is_tagged, with_one, with_two, tests, fails, stores_computed, splits, opens, put_elements, stores_tuple, updates_record, allocates_in, trims_in, trims_newest, cleared, tags, raises_again, raises_raw, catches, handles, raises, faults, illegal, returns_to, returns_from, returns, follows, answers, changed_by, answers_true, arguments_of, enters, with_new_frame, pushes, calls, calls_only, after_dropping, applies, chosen, selects, size_chosen, selects_size, own_number, sends_own, sends_to, peeks, with_message_at, waits, Duration, forever, milliseconds, duration_of, sleeps_at, sleeps_for, waits_for, waits_with, finds_message, exits}
use Rattle.beam_machine.specs.declared.action.Register.TheVariants as register
use Rattle.beam_machine.specs.declared.action.Test.{Test}
use Rattle.beam_machine.specs.declared.action.Test.TheVariants as test
use Rattle.beam_machine.specs.declared.callee.Callee.TheVariants as callee
use Rattle.beam_shape_laws.specs.Finds.{newest, is_bare, HasValue, test_reads}
use Rattle.beam_shape_laws.specs.Shaped.{HasShape, Fits, Catches, Wait, WaitBehind, IsShaped}
use Rattle.beam_shape_laws.proofs.Exits.{exit_gives}
use Rattle.beam_shape_laws.proofs.Slots.{same_length, made_held, drop_held}
use Rattle.beam_shape_laws.proofs.Standing.{FitsRow, has_many, stands_some, running, over, raises_shaped, bare_catches, waits_from, Stands, StandsIf, put_y_stands, dropped_stands, bare_slots}
use Rattle.beam_shape_laws.proofs.Small.{some_of, chosen_some, in_parts}

-- ---- the y registers of registers

abbrev pub y_of : Register → List ℕ
y_of (register.X n) = []
y_of (register.Y n) = n ∷ []

pub put_none : (s : Shape) → put_all None [] s ≡ s
put_none bare = refl
put_none (sized ts) = refl
put_none any = refl

puts_in_turn : (tag : Option ℕ) (ns ms : List ℕ) (y : List (Option ℕ)) → put_ys tag (ns ++ ms) y ≡ put_ys tag ms (put_ys tag ns y)
puts_in_turn tag [] ms y = refl
puts_in_turn tag (n ∷ ns) ms y = puts_in_turn tag ns ms (slice_set y n tag)

put_in_turn : (tag : Option ℕ) (ns ms : List ℕ) (s : Shape) → put_all tag (ns ++ ms) s ≡ put_all tag ms (put_all tag ns s)
put_in_turn tag ns ms bare = refl
put_in_turn tag ns ms any = refl
put_in_turn tag ns ms (sized ts) = ap (λ ts. sized ts) (puts_in_turn tag ns ms ts)

puts_length : (tag : Option ℕ) (ns : List ℕ) (y : List (Option ℕ)) → length (put_ys tag ns y) ≡ length y
puts_length tag [] y = refl
puts_length tag (n ∷ ns) y = puts_length tag ns (slice_set y n tag) ∙ length-set y n tag

there_still : (tag : Option ℕ) (ns : List ℕ) (s : Shape) (n : ℕ) → is_there_in (put_all tag ns s) n ≡ is_there_in s n
there_still tag ns bare n = refl
there_still tag ns any n = refl
there_still tag ns (sized ts) n = ap (nat_lt n) (puts_length tag ns ts)

all_still : (tag : Option ℕ) (ns : List ℕ) (s : Shape) (ms : List ℕ) → list_all (is_there_in (put_all tag ns s)) ms ≡ list_all (is_there_in s) ms
all_still tag ns s [] = refl
all_still tag ns s (m ∷ ms) = ap (λ b. b && list_all (is_there_in (put_all tag ns s)) ms) (there_still tag ns s m) ∙ ap (λ b. is_there_in s m && b) (all_still tag ns s ms)

-- ---- natives that always have a value

unary_ok : (f : Unary) → is_total (Some (native.Unary f)) ≡ true → (t : TermValue) → is_ok (unary_value f t) ≡ true
unary_ok (unary.IsOfType type) e t = refl
unary_ok _ e t = absurd (true≢false (sym e))

binary_ok : (f : Binary) → is_total (Some (native.Binary f)) ≡ true → (s t : TermValue) → is_ok (binary_value f s t) ≡ true
binary_ok (binary.Compare comparison) e s t = refl
binary_ok binary.Maximum e s t = refl
binary_ok binary.Minimum e s t = refl
binary_ok _ e s t = absurd (true≢false (sym e))

-- ---- returns and answers, of any process

-- after a native the process goes on at a place that fits, or returns from a frame without y registers
abbrev pub AfterFits : Code → After → List Frame → Type 0
AfterFits code (NextRow place) frames = Fits code place (newest frames)
AfterFits code Return frames = IsTrue (is_bare frames)

-- a process that gets an answer: it may raise, and go on
abbrev pub IsReady : Code → After → Process → Type 0
IsReady code after q = Catches code (newest q.frames) × WaitBehind code q.frames × (q.status ≡ Running) × AfterFits code after q.frames

-- the outcome of a row is a process that is shaped
abbrev pub Comes : Code → Outcome → Type 0
Comes code (makes q) = IsShaped code q
Comes code (sends q to signal) = IsShaped code q
Comes code (asks q native arity after) = IsReady code after q
Comes code (sleeps q n place) = (d : Deadline) → d.after ≡ place → IsShaped code (record q { deadline = Some d })

module _ (code : Code) where
  returns_back : (q : Process) (older : List Frame) (back : Option Place) → q.status ≡ Running → Wait code back older → IsShaped code (returns_to q older back)
  returns_back q older None r w = over code q normal (read_x q.x 0)
  returns_back q [] (Some place) r w = absurd w
  returns_back q (frame ∷ older) (Some place) r w = running code (returns_to q (frame ∷ older) (Some place)) r (w.0, w.2)

  no_slots : (frame : Frame) (older : List Frame) → is_bare (frame ∷ older) ≡ true → is_some frame.y ≡ false
  no_slots frame older e = go frame.y e
    where
      go : (y : Option (List Slot)) → is_bare (record frame { y = y } ∷ older) ≡ true → is_some y ≡ false
      go None e = refl
      go (Some y) e = absurd (true≢false (sym e))

  returns_over : (q : Process) (frames : List Frame) → is_bare frames ≡ true → q.status ≡ Running → WaitBehind code frames → IsShaped code (returns_from q frames)
  returns_over q [] b r w = absurd w
  returns_over q (frame ∷ older) b r w =
      subst (λ c. IsShaped code (cond c (illegal q) (returns_to q older frame.back))) (sym (no_slots frame older b)) (returns_back q older frame.back r w)

  pub returned : (q : Process) → is_bare q.frames ≡ true → q.status ≡ Running → WaitBehind code q.frames → IsShaped code (returns q)
  returned q b r w = returns_over q q.frames b r w

  followed : (q : Process) (after : After) → IsReady code after q → IsShaped code (follows q after)
  followed q (NextRow place) k = running code (goes_on q place) k.2 (k.3, k.1)
  followed q Return k = returned q k.3 k.2 k.1

  pub answered : (q : Process) (after : After) (value : Result TermValue Exception) → IsReady code after q → IsShaped code (answers q after value)
  answered q after (Ok value) k = followed (put_x q 0 value) after (as_put after k)
    where
      as_put : (after : After) → IsReady code after q → IsReady code after (put_x q 0 value)
      as_put (NextRow place) k = k
      as_put Return k = k
  answered q after (Err e) k = raises_shaped code q e k.2 k.0 k.1

  -- ---- calls without a new frame

  -- each entry of current code begins without y registers
  abbrev pub Enters : Type 0
  Enters = (name function : List ℕ) (arity : ℕ) (place : Place) → entry_of code name function arity ≡ Some place → Fits code place None

  -- a process that runs in a frame without y registers
  abbrev pub IsBare : Process → Type 0
  IsBare q = (newest q.frames ≡ None) × WaitBehind code q.frames × (q.status ≡ Running)

  bare_frames : (frames : List Frame) → newest frames ≡ None → WaitBehind code frames → is_bare frames ≡ true
  bare_frames [] e w = absurd w
  bare_frames (frame ∷ older) e w = go frame.y e
    where
      go : (y : Option (List Slot)) → y ≡ None → is_bare (record frame { y = y } ∷ older) ≡ true
      go None e = refl
      go (Some y) e = cc

  bare_catch : (q : Process) → newest q.frames ≡ None → Catches code (newest q.frames)
  bare_catch q e = subst (Catches code) (sym e) (bare_catches code)

  bare_raises : (q : Process) (e : Exception) → IsBare q → IsShaped code (raises q e)
  bare_raises q e k = raises_shaped code q e k.2 (bare_catch q k.0) k.1

  pub bare_ready : (q : Process) → IsBare q → IsReady code Return q
  bare_ready q k = (bare_catch q k.0, k.1, k.2, bare_frames q.frames k.0 k.1)

  entered : (q : Process) (o : Option Place) → IsBare q → ((place : Place) → o ≡ Some place → Fits code place None) → IsShaped code (enters q o)
  entered q None k f = bare_raises q (exception.Fault Undef) k
  entered q (Some place) k f = running code (goes_on q place) k.2 (subst (Fits code place) (sym k.0) (f place refl), k.1)

  -- a native that changes its process alone
  pub changed_alone : (q : Process) (after : After) (native : ProcessNative) (ts : List TermValue) → IsReady code after q → IsShaped code (answers_true q after (changed_by q native ts))
  changed_alone q (NextRow place) native ts k =
      answers_keep (IsReady code (NextRow place)) (λ r m h. h) (λ r keep h. h) (IsShaped code) q (NextRow place) native ts k (raises_shaped code q (exception.Fault Badarg) k.2 k.0 k.1)
      (λ r h. answered r (NextRow place) (Ok (truth true)) h)
  changed_alone q Return native ts k =
      answers_keep (IsReady code Return) (λ r m h. h) (λ r keep h. h) (IsShaped code) q Return native ts k (raises_shaped code q (exception.Fault Badarg) k.2 k.0 k.1)
      (λ r h. answered r Return (Ok (truth true)) h)

  pub called_only : (c : Callee) (q : Process) → Enters → IsBare q → Comes code (calls_only code c q)
  called_only (callee.Function «module» name arity) q enter k = entered q (entry_of code «module» name arity) k (enter «module» name arity)
  called_only (callee.Native native arity) q enter k = answered q Return (native_value native (arguments_of q arity) (own_pid q.pid)) (bare_ready q k)
  called_only (callee.Node native arity) q enter k = bare_ready q k
  called_only (callee.OfProcess native arity) q enter k = changed_alone q Return native (arguments_of q arity) (bare_ready q k)
  called_only callee.Undefined q enter k = bare_raises q (exception.Fault Undef) k

  pub applied_only : (q : Process) (o : Option Callee) → Enters → IsBare q → Comes code (applies q (λ c. calls_only code c q) o)
  applied_only q None enter k = bare_raises q (exception.Fault Badarg) k
  applied_only q (Some c) enter k = called_only c q enter k

-- ---- a row of a process that runs

-- a process that runs, before its row: its newest frame has the shape, and the next row stands at a position of this code
pub record Row : Type 0 where
  pub code : Code
  pub instance : ℕ
  pub instrs : List Instruction
  pub next : ℕ
  pub s : Shape
  pub p : Process
  pub has : HasShape instance instrs s (newest p.frames)
  pub behind : WaitBehind code p.frames
  pub run : p.status ≡ Running

module _ (row : Row) where
  abbrev code : Code
  code = row.code

  abbrev instance : ℕ
  instance = row.instance

  abbrev instrs : List Instruction
  instrs = row.instrs

  abbrev next : ℕ
  next = row.next

  abbrev s : Shape
  s = row.s

  abbrev p : Process
  p = row.p

  abbrev has : HasShape row.instance row.instrs row.s (newest row.p.frames)
  has = row.has

  abbrev behind : WaitBehind row.code row.p.frames
  behind = row.behind

  abbrev run : row.p.status ≡ Running
  run = row.run

  abbrev pub next_place : Place
  next_place = record { instance = instance; at = next }

  abbrev pub Right : Process → Type 0
  Right q = IsShaped code q

  -- the next row may be reached with this shape
  abbrev pub On : Shape → Type 0
  On t = (y : Option (List Slot)) → HasShape instance instrs t y → Fits code next_place y

  abbrev pub Reached : Option ℕ → Type 0
  Reached o = FitsRow code instance (newest p.frames) o

  abbrev pub Begins : Option ℕ → Type 0
  Begins o = FitsRow code instance None o

  abbrev pub Caught : Type 0
  Caught = Catches code (newest p.frames)

  pub goes_next : (t : Shape) (q : Process) → Stands code instance instrs t q → On t → Right (goes_on q next_place)
  goes_next t q k on = running code (goes_on q next_place) k.2 (on (newest q.frames) k.0, k.1)

  pub goes_label : (target : Option ℕ) → Reached target → Right (goes_to p instance target)
  goes_label None k = absurd k
  goes_label (Some at) k = running code (goes_to p instance (Some at)) run (k, behind)

  pub changed : (t : Shape) (o : Option Process) → StandsIf code instance instrs t o → On t → Right (changes p next_place o)
  changed t None k on = absurd k
  changed t (Some q) k on = goes_next t q k on

  pub raised : Caught → (e : Exception) → Right (raises p e)
  raised c e = raises_shaped code p e run c behind

  pub faulted : Caught → (f : Fault) → Right (faults p f)
  faulted c f = raised c (exception.Fault f)

  pub wrong : Caught → Right (illegal p)
  wrong c = faulted c IllegalOperand

  -- ---- writing

  pub put_stands : (t : Shape) (q : Process) (dest : Register) (value : TermValue) → Stands code instance instrs t q → list_all (is_there_in t) (y_of dest) ≡ true
      → StandsIf code instance instrs (put_all None (y_of dest) t) (put q dest value)
  put_stands t q (register.X n) value k e = (subst (λ u. HasShape instance instrs u (newest q.frames)) (sym (put_none t)) k.0, k.1, k.2)
  put_stands t q (register.Y n) value k e = put_y_stands code instance instrs t q q.frames n None (Value value) k.0 k.1 k.2 (and_parts (is_there_in t n) true e).0 tt

  pub stored : (dest : Register) (ws : List ℕ) → ws ≡ y_of dest → list_all (is_there_in s) (ws ++ []) ≡ true → On (put_all None (ws ++ []) s) → (value : TermValue) → Right (stores p next_place dest value)
  stored dest ws e h on value =
      let is : ws ++ [] ≡ y_of dest = append-nil ws ∙ e in
      changed (put_all None (y_of dest) s) (put p dest value)
      (put_stands s p dest value (has, behind, run) (subst (λ ns. list_all (is_there_in s) ns ≡ true) is h))
      (subst (λ ns. On (put_all None ns s)) is on)

  pub stored_made : Caught → (dest : Register) → ((value : TermValue) → Right (stores p next_place dest value)) → (value : Result TermValue Fault) → Right (stores_made p next_place dest value)
  stored_made c dest st (Ok value) = st value
  stored_made c dest st (Err fault) = faulted c fault

  stored_second : (t : Shape) (second : Register) (v : TermValue) (o : Option Process) → StandsIf code instance instrs t o → list_all (is_there_in t) (y_of second) ≡ true → On (put_all None (y_of second) t)
      → Right (stores_second p next_place second v o)
  stored_second t second v None k h on = absurd k
  stored_second t second v (Some q) k h on = changed (put_all None (y_of second) t) (put q second v) (put_stands t q second v k h) on

  pub stored_two : (first second : Register) (ds es : List ℕ) → ds ≡ y_of first → es ≡ y_of second → list_all (is_there_in s) (ds ++ (es ++ [])) ≡ true → On (put_all None (ds ++ (es ++ [])) s)
      → (v w : TermValue) → Right (stores_two p next_place first v second w)
  stored_two first second ds es e f h on v w =
      let is : ds ++ (es ++ []) ≡ y_of first ++ y_of second = ap (λ ns. ds ++ ns) (append-nil es ∙ f) ∙ ap (λ ns. ns ++ y_of second) e in
      let both = in_parts (is_there_in s) (y_of first) (y_of second) (subst (λ ns. list_all (is_there_in s) ns ≡ true) is h) in
      let t : Shape = put_all None (y_of first) s in
      stored_second t second w (put p first v) (put_stands s p first v (has, behind, run) both.0) (all_still None (y_of first) s (y_of second) ∙ both.1)
      (subst On (put_in_turn None (y_of first) (y_of second) s) (subst (λ ns. On (put_all None ns s)) is on))

  -- ---- reading

  pub with_one_right : (o : Option TermValue) (does : TermValue → Process) → is_some o ≡ true → ((t : TermValue) → Right (does t)) → Right (with_one p o does)
  with_one_right None does e k = absurd (true≢false (sym e))
  with_one_right (Some t) does e k = k t

  pub with_two_right : (o u : Option TermValue) (does : TermValue → TermValue → Process) → is_some o ≡ true → is_some u ≡ true → ((a b : TermValue) → Right (does a b)) → Right (with_two p o u does)
  with_two_right None u does e f k = absurd (true≢false (sym e))
  with_two_right (Some a) None does e f k = absurd (true≢false (sym f))
  with_two_right (Some a) (Some b) does e f k = k a b

  -- ---- natives that never return

  pub exit_raised : (q : Process) (after : After) (f : Native) (ts : List TermValue) (own : TermValue) → is_exit f ≡ true → ((e : Exception) → Right (raises q e)) → Right (answers q after (native_value f ts own))
  exit_raised q after f ts own e k =
      let given = exit_gives f ts own e in
      subst (λ v. Right (answers q after v)) (sym given.1) (k given.0)

  bared_newest : (frames : List Frame) → newest (with_y frames None) ≡ None
  bared_newest [] = refl
  bared_newest (frame ∷ older) = refl

  bared_behind : (frames : List Frame) → WaitBehind code frames → WaitBehind code (with_y frames None)
  bared_behind [] w = absurd w
  bared_behind (frame ∷ older) w = w

  -- without the y registers of its newest frame a process stands in a frame without any
  bared_is : IsBare code (bared p)
  bared_is = (bared_newest p.frames, bared_behind p.frames behind, run)

  -- a call of such a native drops all y registers and raises
  pub exited : (c : Callee) → exits c ≡ true → Comes code (calls_only code c (bared p))
  exited (callee.Native f arity) e = exit_raised (bared p) Return f (arguments_of (bared p) arity) (own_pid p.pid) e (λ x. bare_raises code (bared p) x bared_is)
  exited _ e = absurd (true≢false (sym e))

  -- ---- tests

  decided : (fail : Option ℕ) → Reached fail → On s → (b : Bool) → Right (decides p next_place fail b)
  decided fail k on true = goes_next s p (has, behind, run) on
  decided fail k on false = goes_label fail k

  pub tested : (t : Test) (fail : Option ℕ) → AllByRecursion (HasValue p) (test_reads t) → Reached fail → On s → Right (tests t fail next_place p)
  tested (test.Compare comparison left right) fail r k on = with_two_right (read p left) (read p right) _ r.0 r.1.0 (λ a b. decided fail k on (compares comparison a b))
  tested (test.IsOfType type v) fail r k on = with_one_right (read p v) _ r.0 (λ a. decided fail k on (is_of_type type a))
  tested (test.HasSize v n) fail r k on = with_one_right (read p v) _ r.0 (λ a. decided fail k on (has_size n a))
  tested (test.IsTagged v n tag) fail r k on = with_one_right (read p v) _ r.0 (λ a. decided fail k on (is_tagged n tag a))

  -- ---- natives of instructions

  -- where a native's instruction goes when there is no value
  abbrev pub Fails : OnFault → Type 0
  Fails Raises = Caught
  Fails (GoesTo target) = Reached target

  failed : (fail : OnFault) → Fails fail → (e : Exception) → Right (fails p instance fail e)
  failed Raises k e = raised k e
  failed (GoesTo target) k e = goes_label target k

  has_value : (dest : Register) (fail : OnFault) → ((value : TermValue) → Right (stores p next_place dest value)) → (value : Result TermValue Exception) → is_ok value ≡ true → Right (stores_computed p next_place dest fail value)
  has_value dest fail st (Ok value) e = st value
  has_value dest fail st (Err x) e = absurd (true≢false (sym e))

  may_fail : (dest : Register) (fail : OnFault) → ((value : TermValue) → Right (stores p next_place dest value)) → Fails fail → (value : Result TermValue Exception) → Right (stores_computed p next_place dest fail value)
  may_fail dest fail st k (Ok value) = st value
  may_fail dest fail st k (Err x) = failed fail k x

  pub computed_0 : (f : Nullary) (dest : Register) (fail : OnFault) → ((value : TermValue) → Right (stores p next_place dest value)) → Right (stores_computed p next_place dest fail (nullary_value f (own_pid p.pid)))
  computed_0 nullary.OwnPid dest fail st = st (own_pid p.pid)
  computed_0 nullary.Node dest fail st = st _

  pub computed_1 : (f : Unary) (t : TermValue) (dest : Register) (fail : OnFault) → ((value : TermValue) → Right (stores p next_place dest value)) → (is_total (Some (native.Unary f)) ≡ false → Fails fail)
      → Right (stores_computed p next_place dest fail (unary_value f t))
  computed_1 f t dest fail st k = go (is_total (Some (native.Unary f))) refl
    where
      go : (b : Bool) → is_total (Some (native.Unary f)) ≡ b → Right (stores_computed p next_place dest fail (unary_value f t))
      go true e = has_value dest fail st (unary_value f t) (unary_ok f e t)
      go false e = may_fail dest fail st (k e) (unary_value f t)

  pub computed_2 : (f : Binary) (t u : TermValue) (dest : Register) (fail : OnFault) → ((value : TermValue) → Right (stores p next_place dest value)) → (is_total (Some (native.Binary f)) ≡ false → Fails fail)
      → Right (stores_computed p next_place dest fail (binary_value f t u))
  computed_2 f t u dest fail st k = go (is_total (Some (native.Binary f))) refl
    where
      go : (b : Bool) → is_total (Some (native.Binary f)) ≡ b → Right (stores_computed p next_place dest fail (binary_value f t u))
      go true e = has_value dest fail st (binary_value f t u) (binary_ok f e t u)
      go false e = may_fail dest fail st (k e) (binary_value f t u)

  -- ---- data

  pub split_right : Caught → (t : TermValue) (does : TermValue → TermValue → Process) → ((h r : TermValue) → Right (does h r)) → Right (splits p t does)
  split_right c (pair_term h r) does k = k h r
  split_right c _ does k = wrong c

  pub open_right : Caught → (t : TermValue) (does : List TermValue → Process) → ((items : List TermValue) → Right (does items)) → Right (opens p t does)
  open_right c (tuple_term items) does k = k (elements_of items)
  open_right c _ does k = wrong c

  pub with_one_caught : Caught → (o : Option TermValue) (does : TermValue → Process) → ((t : TermValue) → Right (does t)) → Right (with_one p o does)
  with_one_caught c None does k = wrong c
  with_one_caught c (Some t) does k = k t

  pub stored_tuple : Caught → (dest : Register) → ((value : TermValue) → Right (stores p next_place dest value)) → (o : Option (List TermValue)) → Right (stores_tuple p next_place dest o)
  stored_tuple c dest st None = wrong c
  stored_tuple c dest st (Some items) = stored_made c dest st (made_term (tuple_of items))

  pub updated : Caught → (size : ℕ) (dest : Register) (updates : List Update) (items : List TermValue) → ((value : TermValue) → Right (stores p next_place dest value)) → Right (updates_record p next_place size dest updates items)
  updated c size dest updates items st =
      elim (length items == size) as (λ b. Right (cond b (stores_tuple p next_place dest (put_elements p updates (Some items))) (illegal p))) [
        | true ↦ stored_tuple c dest st (put_elements p updates (Some items))
        | false ↦ wrong c
      ]

  -- ---- y registers

  allocated_in : (n : ℕ) (frames : List Frame) → HasShape instance instrs bare (newest frames) → WaitBehind code frames → On (sized (replicate n None)) → Caught → Right (allocates_in n next_place p frames)
  allocated_in n [] h w on c = absurd w
  allocated_in n (frame ∷ older) h w on c =
      let none : is_some frame.y ≡ false = ap is_some (bare_slots code instance instrs frame.y h) in
      let y : List Slot = replicate n (Value nil_term) in
      let q : Process = goes_on (with_slots p frame older (Some y)) next_place in
      subst (λ b. Right (cond b (illegal p) (cond (nat_le (words_of p.frames + n) 65536) q (faults p SystemLimit)))) (sym none)
      (elim (nat_le (words_of p.frames + n) 65536) as (λ b. Right (cond b q (faults p SystemLimit))) [
        | true ↦ running code q run (on (Some y) (made_held instance instrs n), w)
        | false ↦ faulted c SystemLimit
      ])

  pub allocated : (n : ℕ) → HasShape instance instrs bare (newest p.frames) → On (sized (replicate n None)) → Caught → Right (allocates_in n next_place p p.frames)
  allocated n h on c = allocated_in n p.frames h behind on c

  trimmed_slots : (m n : ℕ) (frame : Frame) (older : List Frame) (t : Shape) (y : Option (List Slot)) → HasShape instance instrs t y → Wait code frame.back older
      → is_some (after_effect (trims_by m n) t) ≡ true → ((u : Shape) → after_effect (trims_by m n) t ≡ Some u → On u) → Right (trims_in m n next_place p frame older y)
  trimmed_slots m n frame older bare y h w e on = absurd (true≢false (sym e))
  trimmed_slots m n frame older any y h w e on = absurd (true≢false (sym e))
  trimmed_slots m n frame older (sized ts) None h w e on = absurd h
  trimmed_slots m n frame older (sized ts) (Some y) h w e on =
      let many : (length ts == m + n) ≡ true = chosen_some (length ts == m + n) (sized (drop m ts)) e in
      let q : Process = goes_on (with_slots p frame older (Some (drop m y))) next_place in
      subst (λ b. Right (cond b q (illegal p))) (sym (ap (λ k. k == m + n) (sym (same_length instance instrs ts y h)) ∙ many))
      (running code q run (on (sized (drop m ts)) (ap (λ b. cond b (Some (sized (drop m ts))) None) many) (Some (drop m y)) (drop_held instance instrs m ts y h), w))

  trimmed_in : (m n : ℕ) (frames : List Frame) → HasShape instance instrs s (newest frames) → WaitBehind code frames
      → is_some (after_effect (trims_by m n) s) ≡ true → ((u : Shape) → after_effect (trims_by m n) s ≡ Some u → On u) → Right (trims_newest m n next_place p frames)
  trimmed_in m n [] h w e on = absurd w
  trimmed_in m n (frame ∷ older) h w e on = trimmed_slots m n frame older s frame.y h w e on

  pub trimmed : (m n : ℕ) → is_some (after_effect (trims_by m n) s) ≡ true → ((u : Shape) → after_effect (trims_by m n) s ≡ Some u → On u) → Right (trims_newest m n next_place p p.frames)
  trimmed m n e on = trimmed_in m n p.frames has behind e on

  pub dropped_bare : (n : ℕ) → has_many n p.frames ≡ true → StandsIf code instance instrs bare (dropped n p p.frames)
  dropped_bare n e = dropped_stands code instance instrs p p.frames n e behind run

  -- a frame that has n y registers can drop them
  pub dropped_some : (n : ℕ) → has_many n p.frames ≡ true → is_some (dropped n p p.frames) ≡ true
  dropped_some n e = stands_some code instance instrs bare (dropped n p p.frames) (dropped_bare n e)

  cleared_stands : (rs : List Register) (t : Shape) (o : Option Process) → StandsIf code instance instrs t o → list_all (is_there_in t) (flat_map y_of rs) ≡ true
      → StandsIf code instance instrs (put_all None (flat_map y_of rs) t) (cleared rs o)
  cleared_stands rs t None k e = absurd k
  cleared_stands [] t (Some q) k e = (subst (λ u. HasShape instance instrs u (newest q.frames)) (sym (put_none t)) k.0, k.1, k.2)
  cleared_stands (r ∷ rest) t (Some q) k e =
      let both = in_parts (is_there_in t) (y_of r) (flat_map y_of rest) e in
      subst (λ u. StandsIf code instance instrs u (cleared rest (put q r nil_term))) (sym (put_in_turn None (y_of r) (flat_map y_of rest) t))
      (cleared_stands rest (put_all None (y_of r) t) (put q r nil_term) (put_stands t q r nil_term k both.0) (all_still None (y_of r) t (flat_map y_of rest) ∙ both.1))

  pub all_cleared : (rs : List Register) (ws : List ℕ) → ws ≡ flat_map y_of rs → list_all (is_there_in s) (ws ++ []) ≡ true → On (put_all None (ws ++ []) s) → Right (changes p next_place (cleared rs (Some p)))
  all_cleared rs ws e h on =
      let is : ws ++ [] ≡ flat_map y_of rs = append-nil ws ∙ e in
      changed (put_all None (flat_map y_of rs) s) (cleared rs (Some p)) (cleared_stands rs s (Some p) (has, behind, run) (subst (λ ns. list_all (is_there_in s) ns ≡ true) is h))
      (subst (λ ns. On (put_all None ns s)) is on)

  -- ---- exceptions

  pub tagged : (n label at : ℕ) → is_there_in s n ≡ true → row_of_label label 0 instrs ≡ Some at → On (put_all (Some label) (n ∷ []) s) → Right (tags p next_place (register.Y n) label (Some at))
  tagged n label at e is on =
      let slot : Slot = TagSlot (record { label = label; place = record { instance = instance; at = at } }) in
      changed (put_all (Some label) (n ∷ []) s) (put_y p p.frames n slot) (put_y_stands code instance instrs s p p.frames n (Some label) slot has behind run e (refl, is)) on

  catches_stands : (t : Shape) (q : Process) (o : Option Exception) → Stands code instance instrs t q → Stands code instance instrs t (catches q o)
  catches_stands t q None k = k
  catches_stands t q (Some e) k = k

  catches_if : (t : Shape) (o : Option Process) → StandsIf code instance instrs t o → StandsIf code instance instrs t (option_map (λ q. catches q q.pending) o)
  catches_if t None k = k
  catches_if t (Some q) k = catches_stands t q q.pending k

  put_written : (dest : Register) (ws : List ℕ) (value : TermValue) → ws ≡ y_of dest → list_all (is_there_in s) (ws ++ []) ≡ true → StandsIf code instance instrs (put_all None (ws ++ []) s) (put p dest value)
  put_written dest ws value e h =
      let is : ws ++ [] ≡ y_of dest = append-nil ws ∙ e in
      subst (λ ns. StandsIf code instance instrs (put_all None ns s) (put p dest value)) (sym is)
      (put_stands s p dest value (has, behind, run) (subst (λ ns. list_all (is_there_in s) ns ≡ true) is h))

  pub catch_ended : (dest : Register) (ws : List ℕ) → ws ≡ y_of dest → list_all (is_there_in s) (ws ++ []) ≡ true → On (put_all None (ws ++ []) s)
      → Right (changes p next_place (option_map (λ q. catches q q.pending) (put p dest nil_term)))
  catch_ended dest ws e h on =
      let t : Shape = put_all None (ws ++ []) s in
      changed t (option_map (λ q. catches q q.pending) (put p dest nil_term)) (catches_if t (put p dest nil_term) (put_written dest ws nil_term e h)) on

  handled_if : (t : Shape) (o : Option Process) (e : Option Exception) → Caught → StandsIf code instance instrs t o → On t → Right (handles p next_place o e)
  handled_if t None e c k on = absurd k
  handled_if t (Some q) None c k on = wrong c
  handled_if t (Some q) (Some e) c k on =
      running code (handles p next_place (Some q) (Some e)) k.2 (on (newest q.frames) k.0, k.1)

  pub handled : Caught → (dest : Register) (ws : List ℕ) → ws ≡ y_of dest → list_all (is_there_in s) (ws ++ []) ≡ true → On (put_all None (ws ++ []) s) → Right (handles p next_place (put p dest nil_term) p.pending)
  handled c dest ws e h on = handled_if (put_all None (ws ++ []) s) (put p dest nil_term) p.pending c (put_written dest ws nil_term e h) on

  pub raised_again : Caught → (o : Option Class) (value : TermValue) → Right (raises_again p o value)
  raised_again c None value = wrong c
  raised_again c (Some k) value = raised c (exception.Raised k value)

  pub raised_raw : Caught → On s → (o : Option Class) → Right (raises_raw p next_place o)
  raised_raw c on None = goes_next s (put_x p 0 (atom_term (codes "badarg"))) (has, behind, run) on
  raised_raw c on (Some k) = raised c (exception.Raised k (read_x p.x 1))

  -- ---- calls

  pub pushed : (does : Process → Process) → Caught → On s → ((q : Process) → IsBare code q → Right (does q)) → Right (pushes p does next_place)
  pushed does c on k =
      elim (nat_lt (words_of p.frames) 65536) as (λ b. Right (cond b (does (with_new_frame p next_place)) (faults p SystemLimit))) [
        | true ↦ k (with_new_frame p next_place) (refl, waits_from code next_place p.frames (on (newest p.frames) has) c behind, run)
        | false ↦ faulted c SystemLimit
      ]

  pub bare_goes : (q : Process) (target : Option ℕ) → IsBare code q → Begins target → Right (goes_to q instance target)
  bare_goes q None k b = absurd b
  bare_goes q (Some at) k b = running code (goes_to q instance (Some at)) k.2 (subst (Fits code (record { instance = instance; at = at })) (sym k.0) b, k.1)

  entered_bare : (q : Process) (o : Option Place) → IsBare code q → ((place : Place) → o ≡ Some place → Fits code place None) → Right (enters q o)
  entered_bare q None k f = raises_shaped code q (exception.Fault Undef) k.2 (subst (Catches code) (sym k.0) (bare_catches code)) k.1
  entered_bare q (Some place) k f = running code (goes_on q place) k.2 (subst (Fits code place) (sym k.0) (f place refl), k.1)

  pub called : (c : Callee) → Enters code → Caught → On s → Comes code (calls code c next_place p)
  called (callee.Function «module» name arity) enter c on = pushed (λ q. enters q (entry_of code «module» name arity)) c on (λ q k. entered_bare q (entry_of code «module» name arity) k (enter «module» name arity))
  called (callee.Native native arity) enter c on = answered code p (NextRow next_place) (native_value native (arguments_of p arity) (own_pid p.pid)) (c, behind, run, on (newest p.frames) has)
  called (callee.Node native arity) enter c on = (c, behind, run, on (newest p.frames) has)
  called (callee.OfProcess native arity) enter c on = changed_alone code p (NextRow next_place) native (arguments_of p arity) (c, behind, run, on (newest p.frames) has)
  called callee.Undefined enter c on = faulted c Undef

  pub applied : (o : Option Callee) → Enters code → Caught → On s → Comes code (applies p (λ c. calls code c next_place p) o)
  applied None enter c on = faulted c Badarg
  applied (Some callee) enter c on = called callee enter c on

  pub after_drop : (o : Option Process) (does : Process → Outcome) → StandsIf code instance instrs bare o → ((q : Process) → IsBare code q → Comes code (does q)) → Comes code (after_dropping p o does)
  after_drop None does k f = absurd k
  after_drop (Some q) does k f = f q (bare_slots code instance instrs (newest q.frames) k.0, k.1, k.2)

  -- ---- choices

  chosen_step : (t v : TermValue) (c : Choice) (rest : List Choice) (fail later : Option ℕ) → read p c.value ≡ Some v → chosen p t rest fail ≡ Some later
      → chosen p t (c ∷ rest) fail ≡ Some (cond (is_equal t v) c.target later)
  chosen_step t v c rest fail later e f = rw (e, f) refl

  pub chosen_reached : (t : TermValue) (choices : List Choice) (fail : Option ℕ) → AllByRecursion (HasValue p) (map (λ c. c.value) choices) → AllByRecursion (λ c. Reached c.target) choices → Reached fail
      → (target : Option ℕ) × (chosen p t choices fail ≡ Some target) × Reached target
  chosen_reached t [] fail v k f = (fail, refl, f)
  chosen_reached t (c ∷ rest) fail v k f =
      let here = some_of (read p c.value) v.0 in
      let later = chosen_reached t rest fail v.1 k.1 f in (
        cond (is_equal t here.0) c.target later.0,
        chosen_step t here.0 c rest fail later.0 here.1 later.1,
        elim (is_equal t here.0) as (λ b. Reached (cond b c.target later.0)) [ true ↦ k.0 | false ↦ later.2 ],
      )

  pub selected : (o : Option (Option ℕ)) → ((target : Option ℕ) × (o ≡ Some target) × Reached target) → Right (selects p instance o)
  selected o k = subst (λ o. Right (selects p instance o)) (sym k.1) (goes_label k.0 k.2)

  size_reached : (n : ℕ) (choices : List SizeChoice) (fail : Option ℕ) → AllByRecursion (λ c. Reached c.target) choices → Reached fail → Reached (size_chosen n choices fail)
  size_reached n [] fail k f = f
  size_reached n (c ∷ rest) fail k f = elim (c.size == n) as (λ b. Reached (cond b c.target (size_chosen n rest fail))) [ true ↦ k.0 | false ↦ size_reached n rest fail k.1 f ]

  pub selected_size : (t : TermValue) (choices : List SizeChoice) (fail : Option ℕ) → AllByRecursion (λ c. Reached c.target) choices → Reached fail → Right (selects_size p instance t choices fail)
  selected_size (tuple_term items) choices fail k f = goes_label (size_chosen (count_of items) choices fail) (size_reached (count_of items) choices fail k f)
  selected_size _ choices fail k f = goes_label fail f

  -- ---- messages and time

  pub sent : Caught → On s → (t : TermValue) → Comes code (sends_to p next_place t)
  sent c on (pid_term host id serial creation) = own (own_number (pid_term host id serial creation))
    where
      own : (o : Option ℕ) → Comes code (sends_own p next_place o)
      own None = goes_next s (put_x p 0 (read_x p.x 1)) (has, behind, run) on
      own (Some n) = goes_next s (put_x p 0 (read_x p.x 1)) (has, behind, run) on
  sent c on (atom_term name) = (c, behind, run, on (newest p.frames) has)
  sent c on _ = faulted c Badarg

  pub peeked : (dest : Register) (fail : Option ℕ) → ((value : TermValue) → Right (stores p next_place dest value)) → Reached fail → (o : Option TermValue) → Right (peeks p next_place dest fail o)
  peeked dest fail st k None = goes_label fail k
  peeked dest fail st k (Some t) = st t

  pub with_message : Caught → (o : Option TermValue) (q : Process) → Right q → Right (with_message_at p o q)
  with_message c None q k = wrong c
  with_message c (Some t) q k = k

  pub skipped : (m : Mailbox) (target : Option ℕ) → Reached target → Right (goes_to (record p { mailbox = m }) instance target)
  skipped m None k = absurd k
  skipped m (Some at) k = running code (goes_to (record p { mailbox = m }) instance (Some at)) run (k, behind)

  -- a process that goes on, or waits without a deadline, at the row of a label
  pub waited : (target : Option ℕ) → Reached target → Right (waits p instance target)
  waited None k = absurd k
  waited (Some at) k = λ e. ((k, behind), λ d w f. cc)

  slept : (at n : ℕ) → Reached (Some at) → On s → (o : Option Deadline) → Comes code (sleeps_at p n (record { instance = instance; at = at }) next_place o)
  slept at n k on None = λ d after e. ((k, behind), λ d' w f. fits_after d d' after f)
    where
      fits_after : (d d' : Deadline) → d.after ≡ next_place → Some d ≡ Some d' → Fits code d'.after (newest p.frames)
      fits_after d d' after f = subst (λ place. Fits code place (newest p.frames)) (sym (ap (λ (d : Deadline). d.after) (sym (same_Some d d' f)) ∙ after)) (on (newest p.frames) has)
  slept at n k on (Some old) = λ e. ((k, behind), λ d w f. fits_after d f)
    where
      fits_after : (d : Deadline) → Some (record old { after = next_place }) ≡ Some d → Fits code d.after (newest p.frames)
      fits_after d f = subst (λ place. Fits code place (newest p.frames)) (ap (λ (d : Deadline). d.after) (same_Some (record old { after = next_place }) d f)) (on (newest p.frames) has)

  slept_for : (target : Option ℕ) (n : ℕ) → Reached target → On s → Comes code (sleeps_for p next_place target n)
  slept_for None n k on = absurd k
  slept_for (Some at) n k on =
      let place : Place = record { instance = instance; at = at } in
      elim (n == 0 && not (finds_message p place)) as (λ b. Comes code (cond b (makes (goes_on p next_place)) (sleeps_at p n place next_place p.deadline))) [
        | true ↦ goes_next s p (has, behind, run) on
        | false ↦ slept at n k on p.deadline
      ]

  pub waited_for : Caught → (target : Option ℕ) → Reached target → On s → (o : Option Duration) → Comes code (waits_for p next_place target o)
  waited_for c target k on None = faulted c TimeoutValue
  waited_for c target k on (Some forever) = waited target k
  waited_for c target k on (Some (milliseconds n)) = slept_for target n k on

  pub waited_with : Caught → (target : Option ℕ) → Reached target → On s → (o : Option TermValue) → is_some o ≡ true → Comes code (waits_with p next_place target o)
  waited_with c target k on None e = absurd (true≢false (sym e))
  waited_with c target k on (Some t) e = waited_for c target k on (duration_of t)
