-- A process that asks for a native, and what the native left of it.
use Rattle.std.proofs.Common.{◌≡◌, ℕ, ◌<◌, false, List, length, slice_get, refl, sym, ap, subst, ◌∙◌, Option, Some, None, Result, Ok, Err, IfSome, is_some, option_map, unwrap_or}
use Rattle.std.proofs.Math.ListN.{set}
use Rattle.std.specs.declared.alloc.AllocError.{AllocError}
use Rattle.std.proofs.lemmas.Option.{same_Some}
use Rattle.beam_model.specs.declared.exception.Exception.{Exception}
use Rattle.beam_model.specs.declared.exception.Fault.{Fault}
use Rattle.beam_model.specs.declared.native.NodeNative.{NodeNative}
use Rattle.beam_term.specs.Prelude.{TermValue, nil_term}
use Rattle.beam_model.specs.declared.exception.Exception.TheVariants as exception
use Rattle.beam_machine.specs.declared.callee.After.{After}
use Rattle.beam_machine.specs.declared.event.Then.{Then}
use Rattle.beam_machine.specs.declared.event.Then.TheVariants.{GoesOn, Waits, Ended as EndedThen}
use Rattle.beam_machine.specs.declared.process.Status.{Status}
use Rattle.beam_machine.specs.declared.process.Status.TheVariants.{Running, Waiting, Ended}
use Rattle.beam_machine.specs.Prelude.{Answered as TheAnswered, answer_of, raised, Process, dropped, ended, then_of, is_ended, with_y, bared, answers, process_of, with_process, with_made}
use Rattle.beam_laws.proofs.Hearing.{hears}
use Rattle.beam_proc.specs.Prelude.{Does, reason_of}
use Rattle.beam_proc.proofs.Lasting.{end_if, ends_after}
use Rattle.beam_proc.proofs.UndoneSteps.{drops_alike}
use Rattle.beam_stack.specs.Prelude.{back_of, first_tag}
use Rattle.beam_state.specs.Prelude.{IsAsking, AreRead, EndsAfter, AnswersNative, MadeBy, CanDrop, bare_if, ReturnsCounting, is_make_ref, then_at}
use Rattle.beam_state.proofs.Answering.{Answered, answered, made_stands, made_quietly, set_process, set_same}
use Rattle.beam_state.proofs.Asked.{Runs, runs_found, read_runs, says, said, within}
use Rattle.beam_state.proofs.Leaving.{Kept, kept, kept_at, kept_has, fault_leaves, value_stays, value_written}
use Rattle.beam_state.proofs.Telling.{but_one, told_ends}
use Rattle.beam_state.proofs.Seen.{each}

-- ---- the asker

module _ {at pid : ℕ} {slots : Option ℕ} {after : After} {ps : List Process} (a : IsAsking at pid slots after ps) where
  pub asker : (p : Process) × Runs ps pid at p
  asker = runs_found ps at pid a.located a.runs

  pub asker_runs : (p : Process) → slice_get ps at ≡ Some p → p.status ≡ Running
  asker_runs p there = (read_runs ps at pid p a.located a.runs there).1.1

  pub asker_found : (p : Process) → slice_get ps at ≡ Some p → process_of ps pid ≡ Some p
  asker_found p there = (read_runs ps at pid p a.located a.runs there).0

  pub asker_drops : (p : Process) → slice_get ps at ≡ Some p → CanDrop slots p
  asker_drops p there = a.drops p (asker_found p there)

  pub asker_within : at < length ps
  asker_within = within ps at asker.0 asker.1.1.0

  pub asker_lives : IfSome (slice_get ps at) (λ p. is_ended p.status ≡ false)
  asker_lives = says ps at asker.0 (λ p. is_ended p.status ≡ false) asker.1.1.0 (ap is_ended asker.1.1.1)

  -- ---- it goes on with a value, or raises

  -- the asker after it was given a value or an exception; where that ends it, nothing but the answer tells of the end
  abbrev pub Did : Result TermValue Exception → Result Then AllocError → List Process → Type 0
  Did value result new = IfSome (slice_get ps at) (λ p. (q : Process) × Does p (answers (bare_if slots p) after value) result q × (new ≡ set ps at q))

  pub end_said : (value : Result TermValue Exception) (reason v : TermValue) (new : List Process) → Did value (Ok (EndedThen reason v)) new
      → (new ≡ ps) × ((p : Process) → process_of ps pid ≡ Some p → answers (bare_if slots p) after value ≡ ended p reason v)
  end_said value reason v new h =
      let p : Process = asker.0 in
      let d = said ps at p (λ p. (q : Process) × Does p (answers (bare_if slots p) after value) (Ok (EndedThen reason v)) q × (new ≡ set ps at q)) asker.1.1.0 h in (
        d.2 ∙ (ap (λ q. set ps at q) d.1.1 ∙ set_same ps at p asker.1.1.0),
        λ r found. subst (λ r. answers (bare_if slots r) after value ≡ ended r reason v) (same_Some p r (sym asker.1.0 ∙ found)) d.1.0,
      )

  -- an end that was answered is then carried out: the node comes to what the asker's value or exception makes of it
  pub end_made : (value : Result TermValue Exception) (reason v : TermValue) (mid new : List Process) (result : Result Then AllocError) → Did value (Ok (EndedThen reason v)) mid
      → MadeBy pid (λ p. ended p reason v) mid result new → MadeBy pid (λ p. answers (bare_if slots p) after value) ps result new
  end_made value reason v mid new (Err refused) d h = h ∙ (end_said value reason v mid d).0
  end_made value reason v mid new (Ok then) d h =
      let e = end_said value reason v mid d in
      let g : MadeBy pid (λ p. ended p reason v) ps (Ok then) new = subst (λ qs. MadeBy pid (λ p. ended p reason v) qs (Ok then) new) e.0 h in
      ((λ p found. g.0 p found ∙ ap (λ q. with_made ps pid q) (sym (e.1 p found))), g.1)

  quiet_made : (f : Process → Process) (q : Process) (then : Then) (new : List Process) → q ≡ f asker.0 → then ≡ then_of (f asker.0).status → is_ended (f asker.0).status ≡ false → new ≡ set ps at q
      → MadeBy pid f ps (Ok then) new
  quiet_made f q then new is stands lives put =
      let made : new ≡ with_made ps pid (f asker.0) = put ∙ (ap (λ q. set ps at q) is ∙ sym (made_quietly ps at pid (f asker.0) a.located lives)) in (
        λ p found. made ∙ ap (λ p. with_made ps pid (f p)) (same_Some asker.0 p (sym asker.1.0 ∙ found)),
        ap (λ qs. then_at qs pid) made ∙ (made_stands ps at pid asker.0 (f asker.0) a.located asker.1.1.0 ∙ ap Some (sym stands)),
      )

  runs_on : (s : Status) → GoesOn ≡ then_of s → is_ended s ≡ false
  runs_on Running e = refl
  runs_on Waiting e = refl
  runs_on (Ended r v) e = cc

  waits_on : (s : Status) → Waits ≡ then_of s → is_ended s ≡ false
  waits_on Running e = refl
  waits_on Waiting e = refl
  waits_on (Ended r v) e = cc

  pub went_on : (value : Result TermValue Exception) (new : List Process) → Did value (Ok GoesOn) new → MadeBy pid (λ p. answers (bare_if slots p) after value) ps (Ok GoesOn) new
  went_on value new h =
      let d = said ps at asker.0 (λ p. (q : Process) × Does p (answers (bare_if slots p) after value) (Ok GoesOn) q × (new ≡ set ps at q)) asker.1.1.0 h in
      quiet_made (λ p. answers (bare_if slots p) after value) d.0 GoesOn new d.1.0 d.1.1 (runs_on (answers (bare_if slots asker.0) after value).status d.1.1) d.2

  pub waited : (value : Result TermValue Exception) (new : List Process) → Did value (Ok Waits) new → MadeBy pid (λ p. answers (bare_if slots p) after value) ps (Ok Waits) new
  waited value new h =
      let d = said ps at asker.0 (λ p. (q : Process) × Does p (answers (bare_if slots p) after value) (Ok Waits) q × (new ≡ set ps at q)) asker.1.1.0 h in
      quiet_made (λ p. answers (bare_if slots p) after value) d.0 Waits new d.1.0 d.1.1 (waits_on (answers (bare_if slots asker.0) after value).status d.1.1) d.2

  -- ---- natives

  module _ (references : ℕ) (native : NodeNative) (arguments : List TermValue) where
    abbrev pub given : TheAnswered
    given = answer_of references ps pid native arguments

    -- a native that changed nothing but the count of references is answered
    pub made_answers : (value : Result TermValue Fault) (count : ℕ) (new : List Process) (then : Then) → Answered references ps pid native arguments ps value count
        → MadeBy pid (λ p. answers (bare_if slots p) after (raised value)) ps (Ok then) new → AnswersNative pid slots native arguments after references ps (Ok then) count new
    made_answers value count new then gave h =
        answered references pid at slots native arguments after ps ps new asker.0 asker.0 value count then a.located asker.1.1.0 asker.1.1.0 gave (h.0 asker.0 asker.1.0) h.1

    fault_gives : (f : Fault) → given.value ≡ Err f → Answered references ps pid native arguments ps (Err f) references
    fault_gives f e =
        let l = fault_leaves references ps pid native arguments f e in (
          None,
          ap (λ qs. record { processes = qs; made = given.made; value = given.value }) l.0
              ∙ (ap (λ m. record { processes = ps; made = m; value = given.value }) l.1 ∙ ap (λ v. record { processes = ps; made = None; value = v }) e),
          refl,
        )

    pub fault_answers : (f : Fault) (result : Result Then AllocError) (new : List Process) → given.value ≡ Err f
        → MadeBy pid (λ p. answers (bare_if slots p) after (Err (exception.Fault f))) ps result new → AnswersNative pid slots native arguments after references ps result references new
    fault_answers f (Err refused) new e h = (h, refl)
    fault_answers f (Ok then) new e h = made_answers (Err f) references new then (fault_gives f e) h

    -- a native with a fault left the processes and the count of references as they were
    pub fault_left : (f : Fault) (mid : List Process) (count : ℕ) → ReturnsCounting references ps given (Ok (Err f)) count mid → (mid ≡ ps) × (count ≡ references)
    fault_left f mid count m =
        let l = fault_leaves references ps pid native arguments f m.1 in
        (sym m.0 ∙ l.0, sym m.2 ∙ ap (λ o. unwrap_or o references) l.1)

    -- the asker after a native
    module _ (mid : List Process) (value : Result TermValue Fault) (is : given.processes ≡ mid) (v : given.value ≡ value) where
      pub left : (q : Process) × ((slice_get mid at ≡ Some q) × (kept q ≡ kept asker.0))
      left = kept_has mid at (kept asker.0) (ap (λ qs. kept_at qs at) (sym is) ∙ value_stays references ps pid native arguments value v at (kept asker.0) (ap (option_map kept) asker.1.1.0))

      pub left_kept : (q : Process) → slice_get mid at ≡ Some q → kept q ≡ kept asker.0
      left_kept q there = ap kept (same_Some q left.0 (sym there ∙ left.1.0)) ∙ left.1.1

      pub left_runs : (q : Process) → slice_get mid at ≡ Some q → q.status ≡ Running
      left_runs q there = ap (λ (k : Kept). k.1) (left_kept q there) ∙ asker.1.1.1

      drops : (o : Option ℕ) (q : Process) → q.frames ≡ asker.0.frames → CanDrop o asker.0 → CanDrop o q
      drops None q same can = tt
      drops (Some n) q same can = ap (λ fs. is_some (dropped n q fs)) same ∙ drops_alike n asker.0 q asker.0.frames can

      pub left_drops : (q : Process) → slice_get mid at ≡ Some q → CanDrop slots q
      left_drops q there = drops slots q (ap (λ (k : Kept). k.2) (left_kept q there)) (a.drops asker.0 asker.1.0)

      pub left_within : at < length mid
      left_within = within mid at left.0 left.1.0

      pub left_lives : IfSome (slice_get mid at) (λ p. is_ended p.status ≡ false)
      left_lives = says mid at left.0 (λ p. is_ended p.status ≡ false) left.1.0 (ap is_ended (left_runs left.0 left.1.0))

      -- the asker ends with the same reason, whatever else the native changed of it
      same_end : (o : Option ℕ) (q : Process) (t : TermValue) → kept q ≡ kept asker.0 → reason_of (answers (bare_if o q) after (Ok t)).status ≡ reason_of (answers (bare_if o asker.0) after (Ok t)).status
      same_end None q t k =
          let runs : q.status ≡ Running = ap (λ (k : Kept). k.1) k ∙ asker.1.1.1 in
          ends_after q after t runs ∙ (ap (λ (k : Kept). end_if after (back_of k.2) (first_tag k.2)) k ∙ sym (ends_after asker.0 after t asker.1.1.1))
      same_end (Some n) q t k =
          let runs : q.status ≡ Running = ap (λ (k : Kept). k.1) k ∙ asker.1.1.1 in
          ends_after (bared q) after t runs
          ∙ (ap (λ (k : Kept). end_if after (back_of (with_y k.2 None)) (first_tag (with_y k.2 None))) k ∙ sym (ends_after (bared asker.0) after t asker.1.1.1))

      pub left_ends : (reason : Option TermValue) (q : Process) (t : TermValue) → EndsAfter pid slots after reason ps → slice_get mid at ≡ Some q → reason_of (answers (bare_if slots q) after (Ok t)).status ≡ reason
      left_ends reason q t ends there = same_end slots q t (left_kept q there) ∙ ends asker.0 t asker.1.0

    pub left_wrote : (mid : List Process) (t : TermValue) (is : given.processes ≡ mid) (v : given.value ≡ Ok t) (q : Process) → AreRead pid arguments ps → is_make_ref native ≡ false → slice_get mid at ≡ Some q
        → 0 < length q.x
    left_wrote mid t is v q read other there =
        let r = read asker.0 asker.1.0 in
        let same : q.x ≡ asker.0.x = ap (λ (k : Kept). k.0) (left_kept mid (Ok t) is v q there) in
        subst (λ x. 0 < length x) (sym same)
        (value_written references ps pid native asker.0.x r.0 t other (ap (λ ts. (answer_of references ps pid native ts).value) (sym r.1) ∙ v))

    -- a native that changed the processes is answered to an asker that doesn't end, or of whose end all others have heard
    lasts : (s : Status) → reason_of s ≡ None → is_ended s ≡ false
    lasts Running e = refl
    lasts Waiting e = refl
    lasts (Ended r t) e = cc

    ends : (s : Status) (reason : TermValue) → reason_of s ≡ Some reason → (t : TermValue) × (s ≡ Ended reason t)
    ends Running reason e = cc
    ends Waiting reason e = cc
    ends (Ended r t) reason e = let same : r ≡ reason = cc in (t, ap (λ r. Ended r t) same)

    -- the asker goes on with a value
    abbrev pub Goes : List Process → TermValue → Then → List Process → Type 0
    Goes mid t then new = IfSome (slice_get mid at) (λ p. (q : Process) × (q ≡ answers (bare_if slots p) after (Ok t)) × (then ≡ then_of q.status) × (new ≡ set mid at q))

    module _ (mid cur : List Process) (count : ℕ) (t : TermValue) (is : given.processes ≡ mid) (v : given.value ≡ Ok t) (counted : unwrap_or given.made references ≡ count)
        (same : slice_get cur at ≡ slice_get mid at) where
      abbrev q : Process
      q = (left mid (Ok t) is v).0

      there : slice_get mid at ≡ Some q
      there = (left mid (Ok t) is v).1.0

      abbrev r : Process
      r = answers (bare_if slots q) after (Ok t)

      gave : Answered references ps pid native arguments mid (Ok t) count
      gave = (
        given.made,
        ap (λ (qs : List Process). record { processes = qs; made = given.made; value = given.value }) is ∙ ap (λ v. record { processes = mid; made = given.made; value = v }) v,
        counted,
      )

      goes : (then : Then) (new : List Process) → (set cur at r ≡ with_made mid pid r) → Goes cur t then new → AnswersNative pid slots native arguments after references ps (Ok then) count new
      goes then new makes h =
          let d = said cur at q (λ p. (q : Process) × (q ≡ answers (bare_if slots p) after (Ok t)) × (then ≡ then_of q.status) × (new ≡ set cur at q)) (same ∙ there) h in
          let made : new ≡ with_made mid pid r = d.3 ∙ (ap (λ q. set cur at q) d.1 ∙ makes) in
          let stands : then_at new pid ≡ Some then =
          ap (λ qs. then_at qs pid) made ∙ (made_stands mid at pid q r a.located there ∙ ap Some (sym (d.2 ∙ ap (λ q. then_of q.status) d.1))) in
          answered references pid at slots native arguments after ps mid new asker.0 q (Ok t) count then a.located asker.1.1.0 there gave made stands

      -- the asker goes on with a value and doesn't end
      pub goes_on : (then : Then) (new : List Process) → cur ≡ mid → EndsAfter pid slots after None ps → Goes cur t then new
          → AnswersNative pid slots native arguments after references ps (Ok then) count new
      goes_on then new alike stays h =
          let lives : is_ended r.status ≡ false = lasts r.status (left_ends mid (Ok t) is v None q t stays there) in
          goes then new (ap (λ qs. set qs at r) alike ∙ sym (made_quietly mid at pid r a.located lives)) h

      -- the asker goes on with a value and ends, once all others have heard of its end
      pub goes_last : (reason : TermValue) (then : Then) (new : List Process) → cur ≡ each (but_one (hears pid (Ended reason nil_term)) at) mid → EndsAfter pid slots after (Some reason) ps → Goes cur t then new
          → AnswersNative pid slots native arguments after references ps (Ok then) count new
      goes_last reason then new alike over h =
          let e = ends r.status reason (left_ends mid (Ok t) is v (Some reason) q t over there) in
          goes then new (sym (set_process cur at pid r a.located) ∙ (ap (λ qs. with_process qs pid r) alike ∙ told_ends mid at pid r (Ended reason e.0) a.located e.1)) h
