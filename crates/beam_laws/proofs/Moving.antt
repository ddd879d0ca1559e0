-- Each row moves its process as Moves says: by the instruction table, line by line, for a process and for it without name and signals at once.
use Rattle.std.proofs.Common.{◌≡◌, ℕ, ◌+◌, ◌==◌, ◌&&◌, cond, Bool, true, false, not, nat_lt, List, [], ◌∷◌, length, refl, sym, ap, subst, ◌∙◌, Option, Some, None, Result, Ok, Err, is_some, option_map, nat_le, slice_get, slice_set, drop, replicate, filter, codes}
use Rattle.beam_machine.specs.declared.action.Register.{Register}
use Rattle.beam_machine.specs.declared.action.Register.TheVariants.{X, Y}
use Rattle.beam_machine.specs.declared.action.OnFault.{OnFault}
use Rattle.beam_machine.specs.declared.action.OnFault.TheVariants.{Raises, Goes as GoesTo}
use Rattle.beam_machine.specs.declared.action.Choice.{Choice}
use Rattle.beam_machine.specs.declared.action.SizeChoice.{SizeChoice}
use Rattle.beam_machine.specs.declared.action.Source.{Source}
use Rattle.beam_machine.specs.declared.action.Source.TheVariants as source
use Rattle.beam_machine.specs.declared.action.Action.{Action}
use Rattle.beam_machine.specs.declared.action.Step.{Step}
use Rattle.beam_machine.specs.declared.callee.Callee.{Callee}
use Rattle.beam_machine.specs.declared.callee.After.{After}
use Rattle.beam_machine.specs.declared.callee.After.TheVariants.{NextRow, Return}
use Rattle.beam_machine.specs.declared.process.Slot.{Slot}
use Rattle.beam_machine.specs.declared.process.Slot.TheVariants.{Value, Tag as TagSlot}
use Rattle.beam_machine.specs.declared.process.Frame.{Frame}
use Rattle.beam_machine.specs.declared.process.Monitor.{Monitor}
use Rattle.beam_machine.specs.declared.process.Deadline.{Deadline}
use Rattle.beam_machine.specs.declared.process.Goes.TheVariants.{At, Enter, Nowhere}
use Rattle.beam_machine.specs.Prelude.{callee_named, Code, step_of, entry_of, Process, read, read_x, read_all, in_front, put as put', put_x, put_y, put_slots, with_slots, with_y, without_slots, dropped, words_of, own_pid, bared, Outcome, makes, faults, illegal, goes_to, changes, stores, stores_made, stores_second, stores_two, decides, has_size, is_tagged, with_one, with_two, tests, fails, stores_computed, computes, held_in, splits, opens, put_element, put_elements, stores_tuple, updates_record, moves, allocates_in, trims_in, trims_newest, cleared, stacks, tags, traced, raises_again, raises_raw, catches, handles, catch_rows, returns_from, follows, answers, changed_by, flushed_if, flush_in, demonitors as demonitors', answers_true, arguments_of, enters as enters', with_new_frame, pushes, calls as calls', calls_only, after_dropping, applies, callee_at, chosen, selects, size_chosen, selects_size, controls, own_number, sends_own, sends_to, peeks, with_message_at, waits as waits', Duration, forever, milliseconds, duration_of, sleeps_at, sleeps_for, waits_for, waits_with, message_rows, perform, performs, outcome_at, outcome, exits, finds_message}
use Rattle.beam_term.specs.Prelude.{TermValue, nil_term, atom_term, reference_term, pid_term, pair_term, tuple_term, tuple_of, elements_of, count_of}
use Rattle.beam_machine.specs.declared.action.Test.{Test as TheTest}
use Rattle.beam_machine.specs.declared.action.Test.TheVariants as test
use Rattle.beam_machine.specs.declared.action.Compute.{Compute as TheCompute}
use Rattle.beam_machine.specs.declared.action.Compute.TheVariants as compute
use Rattle.beam_machine.specs.declared.action.Data.{Data as TheData}
use Rattle.beam_machine.specs.declared.action.Data.TheVariants as data'
use Rattle.beam_machine.specs.declared.action.Stack.{Stack as TheStack}
use Rattle.beam_machine.specs.declared.action.Stack.TheVariants as stack
use Rattle.beam_machine.specs.declared.action.Catching.{Catching as TheCatching}
use Rattle.beam_machine.specs.declared.action.Catching.TheVariants as catching
use Rattle.beam_machine.specs.declared.action.Control.{Control as TheControl}
use Rattle.beam_machine.specs.declared.action.Control.TheVariants as control
use Rattle.beam_machine.specs.declared.action.Messaging.{Messaging as TheMessaging}
use Rattle.beam_machine.specs.declared.action.Messaging.TheVariants as messaging
use Rattle.beam_machine.specs.declared.action.Action.TheVariants.{Test, Compute, Data, Control, Stack, Catching, Messaging}
use Rattle.beam_machine.specs.declared.callee.Callee.TheVariants as callee
use Rattle.beam_model.specs.declared.exception.Class.{Class}
use Rattle.beam_model.specs.declared.exception.Exception.{Exception}
use Rattle.beam_model.specs.declared.exception.Fault.{Fault}
use Rattle.beam_model.specs.declared.exception.Fault.TheVariants.{IllegalOperand, Undef, Badarg, SystemLimit, TimeoutValue}
use Rattle.beam_model.specs.Prelude.{Place, clause_exception, message_at, with_next, with_removed, with_reset, compares, is_of_type, truth, limited_term, nullary_value, unary_value, binary_value, native_value, class_in, caught}
use Rattle.beam_model.specs.declared.native.ProcessNative.{ProcessNative}
use Rattle.beam_model.specs.declared.native.ProcessNative.TheVariants.{Demonitor}
use Rattle.beam_model.specs.declared.exception.Exception.TheVariants as exception
use Rattle.beam_machine.specs.declared.process.Goes.{Goes}
use Rattle.beam_machine.specs.declared.action.Update.{Update}
use Rattle.beam_model.specs.declared.native.NodeNative.TheVariants as node
use Rattle.beam_laws.proofs.Moves.{Near, named, bare, IsNearSlot, newest_slots, Slots, put, trim, allocate, deallocate, Changes, begins, writes, demonitors, calls, slots, Moves, goes, enters, returns, raise, receives, waits, waits_until, sleep, send, ask, ask_last, enters_module, leaves, is_far}

-- one value, read of a process and of the process without name and signals
data Same {A : Type 0} : A → A → Type 0 where
  same : (a : A) → Same a a

is_same : {A : Type 0} (a b : A) → Same a b → a ≡ b
is_same _ _ (same a) = refl

same_is : {A : Type 0} (a b : A) → a ≡ b → Same a b
same_is a b e = subst (λ b. Same a b) e (same a)

-- a change that can be made of both, or of neither
data Both (here : Option ℕ) (start : Process) : Option Process → Option Process → Type 0 where
  neither : Both here start None None
  both : (q : Process) → Changes here start q → Both here start (Some (named start q)) (Some (bare start q))

module _ (code : Code) (here : Option ℕ) (far : Bool) (start : Process) where
  abbrev full : Process → Process
  full q = named start q

  abbrev less : Process → Process
  less q = bare start q

  abbrev On : Process → Type 0
  On q = Changes here start q

  abbrev OnBoth : Option Process → Option Process → Type 0
  OnBoth x y = Both here start x y

  abbrev pub Comes : Outcome → Outcome → Type 0
  Comes o u = Moves code here far start o u

  abbrev Right : Process → Process → Type 0
  Right x y = Comes (makes x) (makes y)

  either : (b : Bool) (x y x' y' : Process) → Right x x' → Right y y' → Right (cond b x y) (cond b x' y')
  either true x y x' y' h k = h
  either false x y x' y' h k = k

  either_comes : (b : Bool) (x y x' y' : Outcome) → Comes x x' → Comes y y' → Comes (cond b x y) (cond b x' y')
  either_comes true x y x' y' h k = h
  either_comes false x y x' y' h k = k

  -- ---- raising

  faulted : (p : Process) (f : Fault) → On p → Right (faults (full p) f) (faults (less p) f)
  faulted p f k = raise p (exception.Fault f) k

  wrong : (p : Process) → On p → Right (illegal (full p)) (illegal (less p))
  wrong p k = faulted p IllegalOperand k

  -- ---- registers

  wrote_x : (p : Process) (x : List TermValue) → On p → On (record p { x = x })
  wrote_x p x k = writes p x p.pending p.mailbox k

  -- other y registers in the newest frame, which is frame
  with_slots_on : (p : Process) (frame : Frame) (older : List Frame) (y z : Option (List Slot)) → p.frames ≡ frame ∷ older → frame.y ≡ y → Slots here y z → On p
      → On (with_slots p frame older z)
  with_slots_on p frame older y z e f s k =
      subst (λ fs. On (record p { frames = with_y fs z })) e (slots p z (subst (λ o. Slots here o z) (sym (ap newest_slots e ∙ f)) s) k)

  put_slots_on : (p : Process) (frame : Frame) (older : List Frame) (y : Option (List Slot)) (n : ℕ) (slot : Slot) → p.frames ≡ frame ∷ older → frame.y ≡ y → IsNearSlot here slot
      → On p
      → OnBoth (put_slots (full p) frame older y n slot) (put_slots (less p) frame older y n slot)
  put_slots_on p frame older None n slot e f i k = neither
  put_slots_on p frame older (Some y) n slot e f i k = go (nat_lt n (length y))
    where
      go : (b : Bool)
          → OnBoth (cond b (Some (with_slots (full p) frame older (Some (slice_set y n slot)))) None)
          (cond b (Some (with_slots (less p) frame older (Some (slice_set y n slot)))) None)
      go true = both (with_slots p frame older (Some (slice_set y n slot))) (with_slots_on p frame older (Some y) (Some (slice_set y n slot)) e f (put y n slot i) k)
      go false = neither

  put_y_on : (p : Process) (frames : List Frame) (n : ℕ) (slot : Slot) → p.frames ≡ frames → IsNearSlot here slot → On p
      → OnBoth (put_y (full p) frames n slot) (put_y (less p) frames n slot)
  put_y_on p [] n slot e i k = neither
  put_y_on p (frame ∷ older) n slot e i k = put_slots_on p frame older frame.y n slot e refl i k

  put_on : (p : Process) (dest : Register) (value : TermValue) → On p → OnBoth (put' (full p) dest value) (put' (less p) dest value)
  put_on p (X n) value k = both (put_x p n value) (wrote_x p _ k)
  put_on p (Y n) value k = put_y_on p p.frames n (Value value) refl tt k

  cleared_on : (registers : List Register) (x y : Option Process) → OnBoth x y → OnBoth (cleared registers x) (cleared registers y)
  cleared_on [] x y k = k
  cleared_on (r ∷ rest) _ _ neither = neither
  cleared_on (r ∷ rest) _ _ (both q k) = cleared_on rest _ _ (put_on q r nil_term k)

  without_on : (n : ℕ) (p : Process) (frame : Frame) (older : List Frame) (y : Option (List Slot)) → p.frames ≡ frame ∷ older → On p
      → OnBoth (without_slots n (full p) frame older y) (without_slots n (less p) frame older y)
  without_on n p frame older None e k = neither
  without_on n p frame older (Some y) e k = go (length y == n)
    where
      go : (b : Bool) → OnBoth (cond b (Some (with_slots (full p) frame older None)) None) (cond b (Some (with_slots (less p) frame older None)) None)
      go true = both (with_slots p frame older None) (with_slots_on p frame older frame.y None e refl (deallocate frame.y) k)
      go false = neither

  dropped_on : (n : ℕ) (p : Process) (frames : List Frame) → p.frames ≡ frames → On p → OnBoth (dropped n (full p) frames) (dropped n (less p) frames)
  dropped_on n p [] e k = neither
  dropped_on n p (frame ∷ older) e k = without_on n p frame older frame.y e k

  -- ---- reading

  reads : (p : Process) (v : Source) → Same (read (full p) v) (read (less p) v)
  reads p (source.Constant t) = same _
  reads p (source.X n) = same _
  reads p (source.Y n) = same _

  in_front_same : (o o' : Option TermValue) (ts ts' : Option (List TermValue)) → Same o o' → Same ts ts' → Same (in_front o ts) (in_front o' ts')
  in_front_same _ _ _ _ (same o) (same ts) = same _

  reads_all : (p : Process) (vs : List Source) → Same (read_all (full p) vs) (read_all (less p) vs)
  reads_all p [] = same _
  reads_all p (v ∷ rest) = in_front_same _ _ _ _ (reads p v) (reads_all p rest)

  put_same : (items : List TermValue) (n : ℕ) (o o' : Option TermValue) → Same o o' → Same (put_element items n o) (put_element items n o')
  put_same items n _ _ (same o) = same _

  puts_all : (p : Process) (updates : List Update) (o o' : Option (List TermValue)) → Same o o' → Same (put_elements (full p) updates o) (put_elements (less p) updates o')
  puts_all p [] _ _ (same o) = same _
  puts_all p (u ∷ rest) _ _ (same None) = same _
  puts_all p (u ∷ rest) _ _ (same (Some items)) = puts_all p rest _ _ (put_same items u.position _ _ (reads p u.value))

  chooses : (p : Process) (t : TermValue) (choices : List Choice) (fail : Option ℕ) → chosen (full p) t choices fail ≡ chosen (less p) t choices fail
  chooses p t [] fail = refl
  chooses p t (c ∷ rest) fail = rw (is_same _ _ (reads p c.value), chooses p t rest fail) refl

  one_of : (p : Process) (o u : Option TermValue) (does does' : TermValue → Process) → Same o u → On p → ((t : TermValue) → Right (does t) (does' t))
      → Right (with_one (full p) o does) (with_one (less p) u does')
  one_of p _ _ does does' (same None) k h = wrong p k
  one_of p _ _ does does' (same (Some t)) k h = h t

  one : (p : Process) (v : Source) (does does' : TermValue → Process) → On p → ((t : TermValue) → Right (does t) (does' t))
      → Right (with_one (full p) (read (full p) v) does) (with_one (less p) (read (less p) v) does')
  one p v does does' k h = one_of p _ _ does does' (reads p v) k h

  two_of : (p : Process) (o u o' u' : Option TermValue) (does does' : TermValue → TermValue → Process) → Same o o' → Same u u' → On p
      → ((s t : TermValue) → Right (does s t) (does' s t))
      → Right (with_two (full p) o u does) (with_two (less p) o' u' does')
  two_of p _ _ _ _ does does' (same None) (same u) k h = wrong p k
  two_of p _ _ _ _ does does' (same (Some s)) (same None) k h = wrong p k
  two_of p _ _ _ _ does does' (same (Some s)) (same (Some t)) k h = h s t

  two : (p : Process) (v w : Source) (does does' : TermValue → TermValue → Process) → On p → ((s t : TermValue) → Right (does s t) (does' s t))
      → Right (with_two (full p) (read (full p) v) (read (full p) w) does) (with_two (less p) (read (less p) v) (read (less p) w) does')
  two p v w does does' k h = two_of p _ _ _ _ does does' (reads p v) (reads p w) k h

  split : (p : Process) (t : TermValue) (does does' : TermValue → TermValue → Process) → On p → ((h r : TermValue) → Right (does h r) (does' h r))
      → Right (splits (full p) t does) (splits (less p) t does')
  split p (pair_term head tail) does does' k h = h head tail
  split p _ does does' k h = wrong p k

  opened : (p : Process) (t : TermValue) (does does' : List TermValue → Process) → On p → ((items : List TermValue) → Right (does items) (does' items))
      → Right (opens (full p) t does) (opens (less p) t does')
  opened p (tuple_term items) does does' k h = h (elements_of items)
  opened p _ does does' k h = wrong p k

  -- ---- rows that raise, return, or enter a function by the name of its module

  raised_again : (p : Process) (o : Option Class) (value : TermValue) → On p → Right (raises_again (full p) o value) (raises_again (less p) o value)
  raised_again p None value k = wrong p k
  raised_again p (Some c) value k = raise p (exception.Raised c value) k

  entered : (p : Process) («module» name : List ℕ) (arity : ℕ) (o : Option Place) → far ≡ true → entry_of code «module» name arity ≡ o → On p
      → Right (enters' (full p) o) (enters' (less p) o)
  entered p «module» name arity None f e k = faulted p Undef k
  entered p «module» name arity (Some place) f e k = enters p «module» name arity place f e k

  returned_from : (p : Process) (frames : List Frame) → far ≡ true → p.frames ≡ frames → On p → Right (returns_from (full p) frames) (returns_from (less p) frames)
  returned_from p [] f e k = wrong p k
  returned_from p (frame ∷ older) f e k = either (is_some frame.y) _ _ _ _ (wrong p k) (returns p frame older f e k)

  -- the place after a native is near, or the row is far
  abbrev pub IsNearAfter : After → Type 0
  IsNearAfter (NextRow next) = Near here next
  IsNearAfter Return = far ≡ true

  followed : (p : Process) (after : After) → IsNearAfter after → On p → Right (follows (full p) after) (follows (less p) after)
  followed p (NextRow next) l k = goes p next l k
  followed p Return l k = returned_from p p.frames l refl k

  pub answered : (p : Process) (after : After) (value : Result TermValue Exception) → IsNearAfter after → On p → Right (answers (full p) after value) (answers (less p) after value)
  answered p after (Ok value) l k = followed (put_x p 0 value) after l (wrote_x p _ k)
  answered p after (Err e) l k = raise p e k

  -- a native that changes its process alone

  flushed_on : (p : Process) (keep : Monitor → Bool) (t : TermValue) (flush : Bool) → On p
      → OnBoth (Some (flushed_if flush (record (full p) { monitors = filter keep p.monitors }) t))
      (Some (flushed_if flush (record (less p) { monitors = filter keep p.monitors }) t))
  flushed_on p keep t true k = both _ (writes (record p { monitors = filter keep p.monitors }) p.x p.pending _ (demonitors p keep k))
  flushed_on p keep t false k = both (record p { monitors = filter keep p.monitors }) (demonitors p keep k)

  demonitored_on : (p : Process) (t : TermValue) (flush : Option Bool) → On p → OnBoth (demonitors' (full p) t flush) (demonitors' (less p) t flush)
  demonitored_on p (reference_term host creation words) (Some flush) k = flushed_on p _ (reference_term host creation words) flush k
  demonitored_on p _ _ k = neither

  changed_on : (p : Process) (native : ProcessNative) (ts : List TermValue) → On p → OnBoth (changed_by (full p) native ts) (changed_by (less p) native ts)
  changed_on p Demonitor (t ∷ []) k = demonitored_on p t (Some false) k
  changed_on p Demonitor (t ∷ options ∷ []) k = demonitored_on p t (flush_in options) k
  changed_on p Demonitor _ k = neither

  told_true : (p : Process) (after : After) (x y : Option Process) → IsNearAfter after → On p → OnBoth x y → Right (answers_true (full p) after x) (answers_true (less p) after y)
  told_true p after _ _ l k neither = faulted p Badarg k
  told_true p after _ _ l k (both q i) = answered q after (Ok (truth true)) l i

  changed_alone : (p : Process) (after : After) (native : ProcessNative) (ts : List TermValue) → IsNearAfter after → On p
      → Right (answers_true (full p) after (changed_by (full p) native ts)) (answers_true (less p) after (changed_by (less p) native ts))
  changed_alone p after native ts l k = told_true p after _ _ l k (changed_on p native ts k)

  called_only : (c : Callee) (p : Process) → far ≡ true → On p → Comes (calls_only code c (full p)) (calls_only code c (less p))
  called_only (callee.Function «module» name arity) p f k = entered p «module» name arity (entry_of code «module» name arity) f refl k
  called_only (callee.Native native arity) p f k = answered p Return (native_value native (arguments_of p arity) (own_pid p.pid)) f k
  called_only (callee.Node native arity) p f k = ask_last p native arity f k
  called_only (callee.OfProcess native arity) p f k = changed_alone p Return native (arguments_of p arity) f k
  called_only callee.Undefined p f k = faulted p Undef k

  after_drop : (p : Process) (x y : Option Process) (does : Process → Outcome) → On p → OnBoth x y → ((q : Process) → On q → Comes (does (full q)) (does (less q)))
      → Comes (after_dropping (full p) x does) (after_dropping (less p) y does)
  after_drop p _ _ does k neither h = wrong p k
  after_drop p _ _ does k (both q i) h = h q i

  applied : (p : Process) (does does' : Callee → Outcome) (o : Option Callee) → On p → ((c : Callee) → Comes (does c) (does' c))
      → Comes (applies (full p) does o) (applies (less p) does' o)
  applied p does does' None k h = faulted p Badarg k
  applied p does does' (Some c) k h = h c

  -- ---- rows that go on in their instance

  module _ (next : Place) (near : Near here next) where
    jumps : (p : Process) (target : Option ℕ) → On p → Right (goes_to (full p) next.instance target) (goes_to (less p) next.instance target)
    jumps p None k = wrong p k
    jumps p (Some at) k = goes p (record { instance = next.instance; at = at }) near k

    changed : (p : Process) (x y : Option Process) → On p → OnBoth x y → Right (changes (full p) next x) (changes (less p) next y)
    changed p _ _ k neither = wrong p k
    changed p _ _ k (both q i) = goes q next near i

    stored : (p : Process) (dest : Register) (value : TermValue) → On p → Right (stores (full p) next dest value) (stores (less p) next dest value)
    stored p dest value k = changed p _ _ k (put_on p dest value k)

    stored_made : (p : Process) (dest : Register) (value : Result TermValue Fault) → On p → Right (stores_made (full p) next dest value) (stores_made (less p) next dest value)
    stored_made p dest (Ok value) k = stored p dest value k
    stored_made p dest (Err fault) k = faulted p fault k

    stored_second : (p : Process) (second : Register) (t : TermValue) (x y : Option Process) → On p → OnBoth x y
        → Right (stores_second (full p) next second t x) (stores_second (less p) next second t y)
    stored_second p second t _ _ k neither = wrong p k
    stored_second p second t _ _ k (both q i) = changed p _ _ k (put_on q second t i)

    stored_two : (p : Process) (first : Register) (v : TermValue) (second : Register) (t : TermValue) → On p
        → Right (stores_two (full p) next first v second t) (stores_two (less p) next first v second t)
    stored_two p first v second t k = stored_second p second t _ _ k (put_on p first v k)

    -- ---- tests and natives

    decided : (p : Process) (fail : Option ℕ) (b : Bool) → On p → Right (decides (full p) next fail b) (decides (less p) next fail b)
    decided p fail true k = goes p next near k
    decided p fail false k = jumps p fail k

    tested : (t : TheTest) (fail : Option ℕ) (p : Process) → On p → Right (tests t fail next (full p)) (tests t fail next (less p))
    tested (test.Compare comparison left right) fail p k = two p left right _ _ k (λ a b. decided p fail (compares comparison a b) k)
    tested (test.IsOfType type v) fail p k = one p v _ _ k (λ a. decided p fail (is_of_type type a) k)
    tested (test.HasSize v n) fail p k = one p v _ _ k (λ a. decided p fail (has_size n a) k)
    tested (test.IsTagged v n tag) fail p k = one p v _ _ k (λ a. decided p fail (is_tagged n tag a) k)

    failed : (p : Process) (fail : OnFault) (e : Exception) → On p → Right (fails (full p) next.instance fail e) (fails (less p) next.instance fail e)
    failed p Raises e k = raise p e k
    failed p (GoesTo target) e k = jumps p target k

    stored_computed : (p : Process) (dest : Register) (fail : OnFault) (value : Result TermValue Exception) → On p
        → Right (stores_computed (full p) next dest fail value) (stores_computed (less p) next dest fail value)
    stored_computed p dest fail (Ok value) k = stored p dest value k
    stored_computed p dest fail (Err e) k = failed p fail e k

    computed : (c : TheCompute) (fail : OnFault) (p : Process) → On p → Right (computes c fail next (full p)) (computes c fail next (less p))
    computed (compute.Of0 f dest) fail p k = stored_computed p dest fail (nullary_value f (own_pid p.pid)) k
    computed (compute.Of1 f v dest) fail p k = one p v _ _ k (λ a. stored_computed p dest fail (unary_value f a) k)
    computed (compute.Of2 f left right dest) fail p k = two p left right _ _ k (λ a b. stored_computed p dest fail (binary_value f a b) k)

    -- ---- data

    stored_tuple : (p : Process) (dest : Register) (o u : Option (List TermValue)) → Same o u → On p → Right (stores_tuple (full p) next dest o) (stores_tuple (less p) next dest u)
    stored_tuple p dest _ _ (same None) k = wrong p k
    stored_tuple p dest _ _ (same (Some items)) k = stored_made p dest (limited_term (tuple_of items)) k

    updated : (p : Process) (size : ℕ) (dest : Register) (updates : List Update) (items : List TermValue) → On p
        → Right (updates_record (full p) next size dest updates items) (updates_record (less p) next size dest updates items)
    updated p size dest updates items k = either (length items == size) _ _ _ _ (stored_tuple p dest _ _ (puts_all p updates _ _ (same (Some items))) k) (wrong p k)

    moved : (d : TheData) (p : Process) → On p → Right (moves d next (full p)) (moves d next (less p))
    moved (data'.Move v dest) p k = one p v _ _ k (λ a. stored p dest a k)
    moved (data'.Swap left right) p k = two p (held_in left) (held_in right) _ _ k (λ a b. stored_two p left b right a k)
    moved (data'.GetList v head tail) p k = one p v _ _ k (λ a. split p a _ _ k (λ h r. stored_two p head h tail r k))
    moved (data'.GetHead v dest) p k = one p v _ _ k (λ a. split p a _ _ k (λ h r. stored p dest h k))
    moved (data'.GetTail v dest) p k = one p v _ _ k (λ a. split p a _ _ k (λ h r. stored p dest r k))
    moved (data'.GetElement v index dest) p k =
        one p v _ _ k (λ a. opened p a _ _ k (λ items. one_of p _ _ _ _ (same (slice_get items index)) k (λ e. stored p dest e k)))
    moved (data'.PutList head tail dest) p k = two p head tail _ _ k (λ a b. stored_made p dest (limited_term (pair_term a b)) k)
    moved (data'.PutTuple dest elements) p k = stored_tuple p dest _ _ (reads_all p elements) k
    moved (data'.UpdateRecord size v dest updates) p k = one p v _ _ k (λ a. opened p a _ _ k (λ items. updated p size dest updates items k))

    -- ---- y registers

    allocated : (n : ℕ) (p : Process) (frames : List Frame) → p.frames ≡ frames → On p → Right (allocates_in n next (full p) frames) (allocates_in n next (less p) frames)
    allocated n p [] e k = wrong p k
    allocated n p (frame ∷ older) e k =
        let y : Option (List Slot) = Some (replicate n (Value nil_term)) in
        either (is_some frame.y) _ _ _ _ (wrong p k)
        (either (nat_le (words_of p.frames + n) 65536) _ _ _ _
        (goes (with_slots p frame older y) next near (with_slots_on p frame older frame.y y e refl (allocate frame.y n) k)) (faulted p SystemLimit k))

    trimmed_in : (m n : ℕ) (p : Process) (frame : Frame) (older : List Frame) (y : Option (List Slot)) → p.frames ≡ frame ∷ older → frame.y ≡ y → On p
        → Right (trims_in m n next (full p) frame older y) (trims_in m n next (less p) frame older y)
    trimmed_in m n p frame older None e f k = wrong p k
    trimmed_in m n p frame older (Some y) e f k =
        either (length y == m + n) _ _ _ _
        (goes (with_slots p frame older (Some (drop m y))) next near (with_slots_on p frame older (Some y) (Some (drop m y)) e f (trim y m) k)) (wrong p k)

    trimmed : (m n : ℕ) (p : Process) (frames : List Frame) → p.frames ≡ frames → On p → Right (trims_newest m n next (full p) frames) (trims_newest m n next (less p) frames)
    trimmed m n p [] e k = wrong p k
    trimmed m n p (frame ∷ older) e k = trimmed_in m n p frame older frame.y e refl k

    stacked : (s : TheStack) (p : Process) → On p → Right (stacks s next (full p)) (stacks s next (less p))
    stacked (stack.Allocate n) p k = allocated n p p.frames refl k
    stacked (stack.Deallocate n) p k = changed p _ _ k (dropped_on n p p.frames refl k)
    stacked (stack.Trim m n) p k = trimmed m n p p.frames refl k
    stacked (stack.Clear registers) p k = changed p _ _ k (cleared_on registers _ _ (both p k))
    stacked stack.TestHeap p k = goes p next near k

    -- ---- exceptions

    tagged : (p : Process) (dest : Register) (label : ℕ) (target : Option ℕ) → On p → Right (tags (full p) next dest label target) (tags (less p) next dest label target)
    tagged p (X n) label target k = wrong p k
    tagged p (Y n) label None k = wrong p k
    tagged p (Y n) label (Some at) k =
        changed p _ _ k (put_y_on p p.frames n (TagSlot (record { label = label; place = record { instance = next.instance; at = at } })) refl near k)

    raised_raw : (p : Process) (o : Option Class) → On p → Right (raises_raw (full p) next o) (raises_raw (less p) next o)
    raised_raw p None k = goes (put_x p 0 (atom_term (codes "badarg"))) next near (wrote_x p _ k)
    raised_raw p (Some c) k = raise p (exception.Raised c (read_x p.x 1)) k

    catches_one : (q : Process) (o : Option Exception) → On q → OnBoth (Some (catches (full q) o)) (Some (catches (less q) o))
    catches_one q None k = both q k
    catches_one q (Some e) k = both (record (put_x q 0 (caught e)) { pending = None }) (writes q _ None q.mailbox k)

    catches_on : (x y : Option Process) → OnBoth x y → OnBoth (option_map (λ q. catches q q.pending) x) (option_map (λ q. catches q q.pending) y)
    catches_on _ _ neither = neither
    catches_on _ _ (both q k) = catches_one q q.pending k

    handled : (p : Process) (x y : Option Process) (e : Option Exception) → On p → OnBoth x y → Right (handles (full p) next x e) (handles (less p) next y e)
    handled p _ _ e k neither = wrong p k
    handled p _ _ None k (both q i) = wrong p k
    handled p _ _ (Some e) k (both q i) = goes _ next near (writes q _ None q.mailbox i)

    catching_rows : (c : TheCatching) (p : Process) → On p → Right (catch_rows c next (full p)) (catch_rows c next (less p))
    catching_rows (catching.Raise fault) p k = faulted p fault k
    catching_rows (catching.RaiseClause fault v) p k = one p v _ _ k (λ a. raise p (clause_exception fault a) k)
    catching_rows (catching.RaiseAgain trace value) p k = two p trace value _ _ k (λ a b. raised_again p (traced a) b k)
    catching_rows catching.RawRaise p k = raised_raw p (class_in (read_x p.x 0)) k
    catching_rows (catching.Catch dest label target) p k = tagged p dest label target k
    catching_rows (catching.CatchEnd dest) p k = changed p _ _ k (catches_on _ _ (put_on p dest nil_term k))
    catching_rows (catching.TryEnd dest) p k = stored p dest nil_term k
    catching_rows (catching.TryCase dest) p k = handled p _ _ p.pending k (put_on p dest nil_term k)
    catching_rows catching.BuildStacktrace p k = goes (put_x p 0 nil_term) next near (wrote_x p _ k)

    -- ---- calls and jumps

    pushed : (p : Process) (does : Process → Process) → On p → ((q : Process) → On q → Right (does (full q)) (does (less q)))
        → Right (pushes (full p) does next) (pushes (less p) does next)
    pushed p does k h = either (nat_lt (words_of p.frames) 65536) _ _ _ _ (h (with_new_frame p next) (calls p next near k)) (faulted p SystemLimit k)

    called : (c : Callee) → (enters_module c ≡ true → far ≡ true) → Comes (calls' code c next start) (calls' code c next (less start))
    called (callee.Function «module» name arity) f =
        pushed start (λ q. enters' q (entry_of code «module» name arity)) begins (λ q i. entered q «module» name arity (entry_of code «module» name arity) (f refl) refl i)
    called (callee.Native native arity) f = answered start (NextRow next) (native_value native (arguments_of start arity) (own_pid start.pid)) near begins
    called (callee.Node native arity) f = ask native arity next near
    called (callee.OfProcess native arity) f = changed_alone start (NextRow next) native (arguments_of start arity) near begins
    called callee.Undefined f = faulted start Undef begins

    selected : (p : Process) (o u : Option (Option ℕ)) → Same o u → On p → Right (selects (full p) next.instance o) (selects (less p) next.instance u)
    selected p _ _ (same None) k = wrong p k
    selected p _ _ (same (Some target)) k = jumps p target k

    selected_size : (p : Process) (t : TermValue) (choices : List SizeChoice) (fail : Option ℕ) → On p
        → Right (selects_size (full p) next.instance t choices fail) (selects_size (less p) next.instance t choices fail)
    selected_size p (tuple_term items) choices fail k = jumps p (size_chosen (count_of items) choices fail) k
    selected_size p _ choices fail k = jumps p fail k

    -- a row that drops n y registers first
    after_n : (n : ℕ) (does : Process → Outcome) → ((q : Process) → On q → Comes (does (full q)) (does (less q)))
        → Comes (after_dropping start (dropped n start start.frames) does) (after_dropping (less start) (dropped n (less start) start.frames) does)
    after_n n does h = after_drop start _ _ does begins (dropped_on n start start.frames refl begins) h

    controlled : (c : TheControl) → (leaves c ≡ true → far ≡ true) → Comes (controls code c next start) (controls code c next (less start))
    controlled (control.Jump target) f = jumps start target begins
    controlled (control.Call target) f = pushed start (λ q. goes_to q next.instance target) begins (λ q i. jumps q target i)
    controlled (control.CallLast n target) f = after_n n (λ q. makes (goes_to q next.instance target)) (λ q i. jumps q target i)
    controlled (control.CallExternal c) f = called c f
    controlled (control.CallExternalOnly c) f = called_only c start (f refl) begins
    controlled (control.CallExternalLast n c) f =
        either_comes (exits c) _ _ _ _ (called_only c (bared start) (f refl) (slots start None (deallocate (newest_slots start.frames)) begins))
        (after_n n (calls_only code c) (λ q i. called_only c q (f refl) i))
    controlled (control.Apply arity) f = applied start _ _ (callee_at start arity) begins (λ c. called c (λ e. f refl))
    controlled (control.ApplyLast arity n) f =
        after_n n (λ q. applies q (λ c. calls_only code c q) (callee_at q arity)) (λ q i. applied q _ _ (callee_at q arity) i (λ c. called_only c q (f refl) i))
    controlled control.Return f = returned_from start start.frames (f refl) refl begins
    controlled (control.SelectValue v choices fail) f = one start v _ _ begins (λ t. selected start _ _ (same_is _ _ (chooses start t choices fail)) begins)
    controlled (control.SelectSize v choices fail) f = one start v _ _ begins (λ t. selected_size start t choices fail begins)

    -- ---- messages and time

    sent_own : (o : Option ℕ) → Comes (sends_own start next o) (sends_own (less start) next o)
    sent_own None = goes (put_x start 0 (read_x start.x 1)) next near (wrote_x start _ begins)
    sent_own (Some n) = send (put_x start 0 (read_x start.x 1)) n (read_x start.x 1) next near (wrote_x start _ begins)

    sent_to : (t : TermValue) → Comes (sends_to start next t) (sends_to (less start) next t)
    sent_to (pid_term host id serial creation) = sent_own (own_number (pid_term host id serial creation))
    sent_to (atom_term text) = ask node.Send 2 next near
    sent_to _ = faulted start Badarg begins

    peeked : (dest : Register) (fail : Option ℕ) (o : Option TermValue) → Right (peeks start next dest fail o) (peeks (less start) next dest fail o)
    peeked dest fail None = jumps start fail begins
    peeked dest fail (Some t) = stored start dest t begins

    with_message : (o : Option TermValue) (q r : Process) → Right q r → Right (with_message_at start o q) (with_message_at (less start) o r)
    with_message None q r h = wrong start begins
    with_message (Some t) q r h = h

    waited : (target : Option ℕ) → Right (waits' start next.instance target) (waits' (less start) next.instance target)
    waited None = wrong start begins
    waited (Some at) = waits start (record { instance = next.instance; at = at }) near begins

    slept_at : (n : ℕ) (place : Place) (o : Option Deadline) → Near here place → Comes (sleeps_at start n place next o) (sleeps_at (less start) n place next o)
    slept_at n place None l = sleep start n place next l near begins
    slept_at n place (Some d) l = waits_until start place (record d { after = next }) l near begins

    slept_for : (target : Option ℕ) (n : ℕ) → Comes (sleeps_for start next target n) (sleeps_for (less start) next target n)
    slept_for None n = wrong start begins
    slept_for (Some at) n =
        let place : Place = record { instance = next.instance; at = at } in
        either_comes (n == 0 && not (finds_message start place)) _ _ _ _ (goes start next near begins) (slept_at n place start.deadline near)

    waited_for : (target : Option ℕ) (o : Option Duration) → Comes (waits_for start next target o) (waits_for (less start) next target o)
    waited_for target None = faulted start TimeoutValue begins
    waited_for target (Some forever) = waited target
    waited_for target (Some (milliseconds n)) = slept_for target n

    waited_with : (target : Option ℕ) (o u : Option TermValue) → Same o u → Comes (waits_with start next target o) (waits_with (less start) next target u)
    waited_with target _ _ (same None) = wrong start begins
    waited_with target _ _ (same (Some t)) = waited_for target (duration_of t)

    messaged : (m : TheMessaging) → Comes (message_rows m next start) (message_rows m next (less start))
    messaged messaging.Send = sent_to (read_x start.x 0)
    messaged (messaging.Peek dest fail) = peeked dest fail (message_at start.mailbox)
    messaged (messaging.Skip target) =
        let q : Process = record start { mailbox = with_next start.mailbox } in
        with_message (message_at start.mailbox) _ _ (jumps q target (writes start start.x start.pending q.mailbox begins))
    messaged messaging.Remove =
        let q : Process = record start { mailbox = with_removed start.mailbox } in
        with_message (message_at start.mailbox) _ _ (receives q next near (writes start start.x start.pending q.mailbox begins))
    messaged (messaging.Wait target) = waited target
    messaged (messaging.WaitTimeout target duration) = waited_with target _ _ (reads start duration)
    messaged messaging.Timeout = receives _ next near (writes start start.x start.pending (with_reset start.mailbox) begins)
    messaged (messaging.Reads v) = one start v _ _ begins (λ t. goes start next near begins)
    messaged (messaging.ReadsBoth left right) = two start left right _ _ begins (λ s t. goes start next near begins)

    -- ---- all rows

    pub action_moves : (a : Action) → (is_far a ≡ true → far ≡ true) → Comes (perform code a next start) (perform code a next (less start))
    action_moves (Test t fail) f = tested t fail start begins
    action_moves (Compute c fail) f = computed c fail start begins
    action_moves (Data d) f = moved d start begins
    action_moves (Control c) f = controlled c f
    action_moves (Stack s) f = stacked s start begins
    action_moves (Catching c) f = catching_rows c start begins
    action_moves (Messaging m) f = messaged m

-- the instance of a process that is at a row, and that of the row after a native
abbrev pub instance_of : Goes → Option ℕ
instance_of (At place) = Some place.instance
instance_of (Enter «module» function arity) = None
instance_of Nowhere = None

abbrev pub instance_after : After → Option ℕ
instance_after (NextRow next) = Some next.instance
instance_after Return = None

-- the answer of a native
pub answer_moves : (code : Code) (p : Process) (after : After) (value : Result TermValue Exception)
    → Moves code (instance_after after) true p (makes (answers p after value)) (makes (answers (bare p p) after value))
answer_moves code p after value = answered code (instance_after after) true p p after value (near after) begins
  where
    near : (after : After) → IsNearAfter code (instance_after after) true p after
    near (NextRow next) = refl
    near Return = refl

performs_step : (code : Code) (instance : ℕ) (o : Option Step) (p : Process) → Moves code (Some instance) true p (performs code instance o p) (performs code instance o (bare p p))
performs_step code instance None p = wrong code (Some instance) true p p begins
performs_step code instance (Some step) p = action_moves code (Some instance) true p (record { instance = instance; at = step.next }) refl step.action (λ e. refl)

outcome_goes : (code : Code) (goes : Goes) (p : Process) → Moves code (instance_of goes) true p (outcome_at code goes p) (outcome_at code goes (bare p p))
outcome_goes code (At place) p = performs_step code place.instance (step_of code place) p
outcome_goes code (Enter «module» function arity) p = called_only code None true p (callee_named «module» function arity) p refl begins
outcome_goes code Nowhere p = wrong code None true p p begins

-- the next row of a process
pub outcome_moves : (code : Code) (p : Process) → Moves code (instance_of p.goes) true p (outcome code p) (outcome code (bare p p))
outcome_moves code p = outcome_goes code p.goes p
