-- A native's answer over processes to each of which a function was applied that no native can notice.
use Rattle.std.proofs.Common.{◌≡◌, ℕ, zero, suc, ◌+◌, ◌-◌, Bool, true, false, cond, not, nat_lt, List, [], ◌∷◌, ◌++◌, length, slice_get, refl, sym, ap, ◌∙◌, is_some, ◌&&◌, Option, Some, None, option_map, slice_set, codes, Ok}
use Rattle.beam_machine.specs.declared.process.Monitor.{Monitor as MonitorValue}
use Rattle.beam_machine.specs.declared.process.Signal.{Signal}
use Rattle.beam_machine.specs.declared.process.Signal.TheVariants.{Message, Exit as ExitSignal, Down}
use Rattle.beam_machine.specs.Prelude.{Process, is_ended, started, own_pid, own_reference, own_number, process_of, with_process, alive, live_process, registered, has_name, posted_to, posted, Answered, answer, fault, most_processes, spawns_with, is_free, names, registers, unnames, unregisters, pid_or_undefined, is_alive, posted_if_own, sends_named, most_references, makes_reference, or_noproc, put_monitor, monitored, monitors_by, answer_of}
use Rattle.beam_model.specs.declared.exception.Fault.TheVariants.{Badarg, SystemLimit}
use Rattle.beam_model.specs.declared.native.NodeNative.{NodeNative}
use Rattle.beam_model.specs.declared.native.NodeNative.TheVariants.{Spawn, Register, Unregister, Whereis, IsProcessAlive, Exit, Send, MakeRef, Monitor}
use Rattle.beam_model.specs.Prelude.{truth, elements_in, same_text}
use Rattle.beam_term.specs.Prelude.{TermValue, atom_term, pid_term}
use Rattle.beam_state.specs.Prelude.{does_send}

-- to each process, by its index, a function is applied
abbrev pub each : (ℕ → Process → Process) → List Process → List Process
each f [] = []
each f (p ∷ ps) = f 0 p ∷ each (λ i. f (suc i)) ps

pub get_each : (f : ℕ → Process → Process) (ps : List Process) (j : ℕ) → slice_get (each f ps) j ≡ option_map (f j) (slice_get ps j)
get_each f [] j = refl
get_each f (p ∷ ps) zero = refl
get_each f (p ∷ ps) (suc j) = get_each (λ i. f (suc i)) ps j

pub set_each : (f : ℕ → Process → Process) (ps : List Process) (j : ℕ) (q : Process) → slice_set (each f ps) j (f j q) ≡ each f (slice_set ps j q)
set_each f [] j q = refl
set_each f (p ∷ ps) zero q = refl
set_each f (p ∷ ps) (suc j) q = ap (λ l. f 0 p ∷ l) (set_each (λ i. f (suc i)) ps j q)

pub length_each : (f : ℕ → Process → Process) (ps : List Process) → length (each f ps) ≡ length ps
length_each f [] = refl
length_each f (p ∷ ps) = ap suc (length_each (λ i. f (suc i)) ps)

push_each : (f : ℕ → Process → Process) (ps : List Process) (q : Process) → each f ps ++ f (length ps) q ∷ [] ≡ each f (ps ++ q ∷ [])
push_each f [] q = refl
push_each f (p ∷ ps) q = ap (λ l. f 0 p ∷ l) (push_each (λ i. f (suc i)) ps q)

same_registered : (f : ℕ → Process → Process) → ((i : ℕ) (p : Process) → (f i p).name ≡ p.name) → ((i : ℕ) (p : Process) → (f i p).pid ≡ p.pid)
    → (ps : List Process) (name : List ℕ) → registered (each f ps) name ≡ registered ps name
same_registered f names pids [] name = refl
same_registered f names pids (p ∷ ps) name =
    let rest : Option ℕ = registered (each (λ i. f (suc i)) ps) name in
    ap (λ m. cond (has_name name m) (Some (f 0 p).pid) rest) (names 0 p)
    ∙ (ap (λ k. cond (has_name name p.name) (Some k) rest) (pids 0 p)
    ∙ ap (λ o. cond (has_name name p.name) (Some p.pid) o) (same_registered (λ i. f (suc i)) (λ i. names (suc i)) (λ i. pids (suc i)) ps name))

-- the function changes neither a process's number nor its name, nor whether it lives, and doesn't depend on its name
pub record Unseen (f : ℕ → Process → Process) : Type 0 where
  pub names : (i : ℕ) (p : Process) → (f i p).name ≡ p.name
  pub pids : (i : ℕ) (p : Process) → (f i p).pid ≡ p.pid
  pub stands : (i : ℕ) (p : Process) → is_ended (f i p).status ≡ is_ended p.status
  pub renamed : (i : ℕ) (p : Process) (name : Option (List ℕ)) → f i (record p { name = name }) ≡ record (f i p) { name = name }

-- the function doesn't depend on the signals in transit to the process at that index
abbrev pub Posts : (ℕ → Process → Process) → ℕ → Type 0
Posts f i = (p : Process) (signal : Signal) → f i (record p { transit = p.transit ++ signal ∷ [] }) ≡ record (f i p) { transit = (f i p).transit ++ signal ∷ [] }

-- the function doesn't depend on the monitors of the process at that index
abbrev pub Watches : (ℕ → Process → Process) → ℕ → Type 0
Watches f i = (p : Process) (m : MonitorValue) → f i (record p { monitors = p.monitors ++ m ∷ [] }) ≡ record (f i p) { monitors = (f i p).monitors ++ m ∷ [] }

-- the function leaves a process that starts at that index as it is
abbrev pub Begins : (ℕ → Process → Process) → ℕ → Type 0
Begins f i = (n : ℕ) (name function : List ℕ) (arguments : List TermValue) → f i (started n name function arguments) ≡ started n name function arguments

-- an answer, with the function applied to each of its processes
abbrev pub moved : (ℕ → Process → Process) → Answered → Answered
moved f a = record a { processes = each f a.processes }

module _ (f : ℕ → Process → Process) (u : Unseen f) where
  either : (b : Bool) (x y v w : Answered) → v ≡ moved f x → w ≡ moved f y → cond b v w ≡ moved f (cond b x y)
  either true x y v w h k = h
  either false x y v w h k = k

  -- ---- processes by their numbers

  same_process : (ps : List Process) (pid : ℕ) → process_of (each f ps) pid ≡ option_map (f (pid - 1)) (process_of ps pid)
  same_process ps pid = elim (nat_lt 0 pid) as (λ b. cond b (slice_get (each f ps) (pid - 1)) None ≡ option_map (f (pid - 1)) (cond b (slice_get ps (pid - 1)) None)) [
    | true ↦ get_each f ps (pid - 1)
    | false ↦ refl
  ]

  same_alive : (i : ℕ) (o : Option Process) → alive (option_map (f i) o) ≡ option_map (f i) (alive o)
  same_alive i None = refl
  same_alive i (Some p) =
      ap (λ b. cond b None (Some (f i p))) (u.stands i p)
      ∙ elim (is_ended p.status) as (λ b. cond b None (Some (f i p)) ≡ option_map (f i) (cond b None (Some p))) [ true ↦ refl | false ↦ refl ]

  pub same_live : (ps : List Process) (pid : ℕ) → live_process (each f ps) pid ≡ option_map (f (pid - 1)) (live_process ps pid)
  same_live ps pid = ap alive (same_process ps pid) ∙ same_alive (pid - 1) (process_of ps pid)

  lives : (ps : List Process) (o : Option ℕ) → is_alive (each f ps) o ≡ is_alive ps o
  lives ps None = refl
  lives ps (Some pid) = ap (λ o. is_some o) (same_live ps pid) ∙ by (live_process ps pid)
    where
      by : (o : Option Process) → is_some (option_map (f (pid - 1)) o) ≡ is_some o
      by None = refl
      by (Some p) = refl

  found : (ps : List Process) (name : List ℕ) → registered (each f ps) name ≡ registered ps name
  found = same_registered f u.names u.pids

  -- replacing a process commutes with the function, where the new process has it applied
  put : (ps : List Process) (pid : ℕ) (q r : Process) → q ≡ f (pid - 1) r → with_process (each f ps) pid q ≡ each f (with_process ps pid r)
  put ps pid q r e = ap (with_process (each f ps) pid) e ∙ set_each f ps (pid - 1) r

  -- ---- signals

  module _ (to : ℕ) (posts : Posts f (to - 1)) where
    same_posted_to : (ps : List Process) (signal : Signal) (o : Option Process) → posted_to (each f ps) to signal (option_map (f (to - 1)) o) ≡ each f (posted_to ps to signal o)
    same_posted_to ps signal None = refl
    same_posted_to ps signal (Some p) =
        put ps to (record (f (to - 1) p) { transit = (f (to - 1) p).transit ++ signal ∷ [] }) (record p { transit = p.transit ++ signal ∷ [] }) (sym (posts p signal))

    same_posted : (ps : List Process) (signal : Signal) → posted (each f ps) to signal ≡ each f (posted ps to signal)
    same_posted ps signal = ap (posted_to (each f ps) to signal) (same_live ps to) ∙ same_posted_to ps signal (live_process ps to)

  module _ (posts : (i : ℕ) → Posts f i) where
    same_signalled : (ps : List Process) (o : Option ℕ) (signal : Signal) → posted_if_own (each f ps) o signal ≡ each f (posted_if_own ps o signal)
    same_signalled ps None signal = refl
    same_signalled ps (Some pid) signal = same_posted pid (posts (pid - 1)) ps signal

    same_sends : (ps : List Process) (o : Option ℕ) (message : TermValue) → sends_named (each f ps) o message ≡ moved f (sends_named ps o message)
    same_sends ps None message = refl
    same_sends ps (Some pid) message = ap (λ rs. answer rs message) (same_posted pid (posts (pid - 1)) ps (Message message))

  -- ---- natives that make no reference

  abbrev spawns_by : List Process → ℕ → Process → List TermValue → Answered
  spawns_by ps n new arguments =
      cond (nat_lt 255 (length arguments)) (fault ps Badarg)
      (cond (nat_lt n most_processes) (answer (ps ++ new ∷ []) (own_pid (n + 1))) (fault ps SystemLimit))

  same_spawns : (ps : List Process) (name function : List ℕ) (o : Option (List TermValue)) → Begins f (length ps) → spawns_with (each f ps) name function o ≡ moved f (spawns_with ps name function o)
  same_spawns ps name function None begins = refl
  same_spawns ps name function (Some arguments) begins =
      let n : ℕ = length ps in
      let new : Process = started (n + 1) name function arguments in
      let qs : List Process = each f ps in
      let grown : qs ++ new ∷ [] ≡ each f (ps ++ new ∷ []) = ap (λ q. qs ++ q ∷ []) (sym (begins (n + 1) name function arguments)) ∙ push_each f ps new in
      ap (λ n. spawns_by qs n (started (n + 1) name function arguments) arguments) (length_each f ps)
      ∙ either (nat_lt 255 (length arguments)) (fault ps Badarg) (cond (nat_lt n most_processes) (answer (ps ++ new ∷ []) (own_pid (n + 1))) (fault ps SystemLimit))
      (fault qs Badarg) (cond (nat_lt n most_processes) (answer (qs ++ new ∷ []) (own_pid (n + 1))) (fault qs SystemLimit)) refl
      (either (nat_lt n most_processes) (answer (ps ++ new ∷ []) (own_pid (n + 1))) (fault ps SystemLimit) (answer (qs ++ new ∷ []) (own_pid (n + 1))) (fault qs SystemLimit) (ap (λ rs. answer rs (own_pid (n + 1))) grown) refl)

  same_free : (ps : List Process) (name : List ℕ) → is_free (each f ps) name ≡ is_free ps name
  same_free ps name = ap (λ o. not (is_some o) && not (same_text name (codes "undefined"))) (found ps name)

  same_names : (ps : List Process) (pid : ℕ) (name : List ℕ) (o : Option Process) → names (each f ps) name pid (option_map (f (pid - 1)) o) ≡ moved f (names ps name pid o)
  same_names ps pid name None = refl
  same_names ps pid name (Some p) =
      let q : Process = f (pid - 1) p in
      let qs : List Process = each f ps in
      let named : Answered = answer (with_process qs pid (record q { name = Some name })) (truth true) in
      ap (λ b. cond (b && not (is_some q.name)) named (fault qs Badarg)) (same_free ps name)
      ∙ (ap (λ m. cond (is_free ps name && not (is_some m)) named (fault qs Badarg)) (u.names (pid - 1) p)
      ∙ either (is_free ps name && not (is_some p.name)) (answer (with_process ps pid (record p { name = Some name })) (truth true)) (fault ps Badarg) named (fault qs Badarg)
      (ap (λ rs. answer rs (truth true)) (put ps pid (record q { name = Some name }) (record p { name = Some name }) (sym (u.renamed (pid - 1) p (Some name))))) refl)

  same_registers : (ps : List Process) (name : List ℕ) (o : Option ℕ) → registers (each f ps) name o ≡ moved f (registers ps name o)
  same_registers ps name None = refl
  same_registers ps name (Some pid) = ap (names (each f ps) name pid) (same_live ps pid) ∙ same_names ps pid name (live_process ps pid)

  same_unnames : (ps : List Process) (pid : ℕ) (o : Option Process) → unnames (each f ps) pid (option_map (f (pid - 1)) o) ≡ moved f (unnames ps pid o)
  same_unnames ps pid None = refl
  same_unnames ps pid (Some p) =
      ap (λ rs. answer rs (truth true)) (put ps pid (record (f (pid - 1) p) { name = None }) (record p { name = None }) (sym (u.renamed (pid - 1) p None)))

  same_unregisters : (ps : List Process) (o : Option ℕ) → unregisters (each f ps) o ≡ moved f (unregisters ps o)
  same_unregisters ps None = refl
  same_unregisters ps (Some pid) = ap (unnames (each f ps) pid) (same_live ps pid) ∙ same_unnames ps pid (live_process ps pid)

  -- ---- references and monitors

  same_makes : (references : ℕ) (ps : List Process) (g h : ℕ → List Process) → ((n : ℕ) → g n ≡ each f (h n)) → makes_reference references (each f ps) g ≡ moved f (makes_reference references ps h)
  same_makes references ps g h same =
      let n : ℕ = references + 1 in
      either (nat_lt references most_references) (record { processes = h n; made = Some n; value = Ok (own_reference n) }) (fault ps SystemLimit)
      (record { processes = g n; made = Some n; value = Ok (own_reference n) }) (fault (each f ps) SystemLimit)
      (ap (λ (rs : List Process). record { processes = rs; made = Some n; value = Ok (own_reference n) }) (same n)) refl

  module _ (caller : ℕ) (posts : Posts f (caller - 1)) (watches : Watches f (caller - 1)) where
    same_noproc : (ps : List Process) (n : ℕ) (pid : TermValue) → or_noproc (each f ps) caller n pid ≡ each f (or_noproc ps caller n pid)
    same_noproc ps n pid =
        let signal : Signal = Down n (atom_term (codes "noproc")) in
        ap (λ b. cond b (each f ps) (posted (each f ps) caller signal)) (lives ps (own_number pid))
        ∙ elim (is_alive ps (own_number pid)) as (λ b. cond b (each f ps) (posted (each f ps) caller signal) ≡ each f (cond b ps (posted ps caller signal))) [
          | true ↦ refl
          | false ↦ same_posted caller posts ps signal
        ]

    same_watching : (ps : List Process) (n : ℕ) (pid : TermValue) (o : Option Process) → put_monitor (each f ps) caller n pid (option_map (f (caller - 1)) o) ≡ each f (put_monitor ps caller n pid o)
    same_watching ps n pid None = refl
    same_watching ps n pid (Some p) =
        let m : MonitorValue = record { reference = n; pid = pid } in
        put ps caller (record (f (caller - 1) p) { monitors = (f (caller - 1) p).monitors ++ m ∷ [] }) (record p { monitors = p.monitors ++ m ∷ [] }) (sym (watches p m))

    same_monitored : (ps : List Process) (pid : TermValue) (n : ℕ) → monitored (each f ps) caller pid n ≡ each f (monitored ps caller pid n)
    same_monitored ps pid n =
        let qs : List Process = or_noproc ps caller n pid in
        ap (λ rs. put_monitor rs caller n pid (live_process rs caller)) (same_noproc ps n pid)
        ∙ (ap (put_monitor (each f qs) caller n pid) (same_live qs caller) ∙ same_watching qs n pid (live_process qs caller))

    same_monitors : (references : ℕ) (ps : List Process) (kind : List ℕ) (pid : TermValue) → monitors_by references (each f ps) caller kind pid ≡ moved f (monitors_by references ps caller kind pid)
    same_monitors references ps kind pid =
        either (same_text kind (codes "process")) (makes_reference references ps (monitored ps caller pid)) (fault ps Badarg)
        (makes_reference references (each f ps) (monitored (each f ps) caller pid)) (fault (each f ps) Badarg)
        (same_makes references ps (monitored (each f ps) caller pid) (monitored ps caller pid) (same_monitored ps pid)) refl

    -- ---- all natives

    pub same_answer : (references : ℕ) (ps : List Process) (native : NodeNative) (arguments : List TermValue) → Begins f (length ps) → (does_send native ≡ true → (i : ℕ) → Posts f i)
        → answer_of references (each f ps) caller native arguments ≡ moved f (answer_of references ps caller native arguments)
    same_answer references ps Spawn (atom_term name ∷ atom_term function ∷ arguments ∷ []) begins sends = same_spawns ps name function (elements_in arguments) begins
    same_answer references ps Register (atom_term name ∷ pid_term host id serial creation ∷ []) begins sends = same_registers ps name (own_number (pid_term host id serial creation))
    same_answer references ps Unregister (atom_term name ∷ []) begins sends = ap (unregisters (each f ps)) (found ps name) ∙ same_unregisters ps (registered ps name)
    same_answer references ps Whereis (atom_term name ∷ []) begins sends = ap (λ o. answer (each f ps) (pid_or_undefined o)) (found ps name)
    same_answer references ps IsProcessAlive (pid_term host id serial creation ∷ []) begins sends =
        ap (λ b. answer (each f ps) (truth b)) (lives ps (own_number (pid_term host id serial creation)))
    same_answer references ps Exit (pid_term host id serial creation ∷ reason ∷ []) begins sends =
        ap (λ rs. answer rs (truth true)) (same_signalled (sends refl) ps (own_number (pid_term host id serial creation)) (ExitSignal caller reason))
    same_answer references ps Send (pid_term host id serial creation ∷ message ∷ []) begins sends =
        ap (λ rs. answer rs message) (same_signalled (sends refl) ps (own_number (pid_term host id serial creation)) (Message message))
    same_answer references ps Send (atom_term name ∷ message ∷ []) begins sends =
        ap (λ o. sends_named (each f ps) o message) (found ps name) ∙ same_sends (sends refl) ps (registered ps name) message
    same_answer references ps MakeRef [] begins sends = same_makes references ps (λ n. each f ps) (λ n. ps) (λ n. refl)
    same_answer references ps Monitor (atom_term kind ∷ pid_term host id serial creation ∷ []) begins sends = same_monitors references ps kind (pid_term host id serial creation)
    same_answer references ps _ _ begins sends = refl
