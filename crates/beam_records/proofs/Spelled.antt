-- Kinds and widths of the bodies that spell commands.
use Rattle.std.proofs.Common.{◌≡◌, ◌≢◌, ℕ, ◌<◌, ◌≤◌, List, length, take, drop, IfSome, refl, sym, subst, arith, length-append, length-take, length-drop, take-append-drop}
use Rattle.byteorder.specs.Endian.{big_number}
use Rattle.beam_machine.specs.declared.debug.DebugEvent.TheVariants.{Node}
use Rattle.beam_machine.specs.declared.event.Event.TheVariants as event
use Rattle.beam_machine.specs.Prelude.{Command, SpellsCommand, load, load_strict, delete, soft_purge, purge, spawn, send, deliver, timeout, set_break, clear_break, resume, step_one, inspect, versions, atomic_load}
use Rattle.beam_machine.specs.Frames.{steps, clock}
use Rattle.beam_records.specs.JournalFile.{SpellsBody, framed, short_steps, short_deliver, width_of}
use Rattle.beam_records.specs.Pieces.{HasWidth, SpellsEvent}

abbrev Known : ℕ → List ℕ → Type 0
Known k b = (k ≤ 18) × IfSome (width_of k) (λ n. length b ≡ n)

command_known : (k : ℕ) (b : List ℕ) (c : Command) → SpellsCommand k b c → Known k b
unfolding width_of
command_known _ _ _ (load file) = (omega arith, tt)
command_known _ _ _ (load_strict file) = (omega arith, tt)
command_known _ _ _ (delete name h) = (omega arith, tt)
command_known _ _ _ (soft_purge name h) = (omega arith, tt)
command_known _ _ _ (purge name h) = (omega arith, tt)
command_known _ _ _ (spawn body name function arguments few h) = (omega arith, tt)
command_known _ _ _ (send body to message names h) = (omega arith, tt)
command_known _ _ _ (steps first second pid rows h k) = (omega arith, omega (arith, length-append first second, h.wide, k.wide))
command_known _ _ _ (deliver field pid h) = (omega arith, h.wide)
command_known _ _ _ (clock field now h) = (omega arith, h.wide)
command_known _ _ _ (timeout field pid h) = (omega arith, h.wide)
command_known _ _ _ (set_break body version name label rows h) = (omega arith, tt)
command_known _ _ _ (clear_break body version name label rows h) = (omega arith, tt)
command_known _ _ _ (resume field pid h) = (omega arith, h.wide)
command_known _ _ _ (step_one field pid h) = (omega arith, h.wide)
command_known _ _ _ (inspect field pid h) = (omega arith, h.wide)
command_known _ _ _ (versions name h) = (omega arith, tt)
command_known _ _ _ (atomic_load mode count body files h parts) = (omega arith, tt)

pub command_kind : (k : ℕ) (b : List ℕ) (c : Command) → SpellsCommand k b c → k ≤ 18
command_kind k b c h = (command_known k b c h).0

pub body_kind : (k : ℕ) (b : List ℕ) (c : Command) → SpellsBody k b c → k < 128
body_kind _ _ _ (framed k b c h) = let le = command_kind k b c h in omega (arith, le)
body_kind _ _ _ (short_steps first second pid rows h k) = omega arith
body_kind _ _ _ (short_deliver field pid h) = omega arith

pub body_width : (k : ℕ) (b : List ℕ) (c : Command) → SpellsBody k b c → IfSome (width_of k) (λ n. length b ≡ n)
unfolding width_of
body_width _ _ _ (framed k b c h) = (command_known k b c h).1
body_width _ _ _ (short_steps first second pid rows h k) = omega (arith, length-append first second, h.wide, k.wide)
body_width _ _ _ (short_deliver field pid h) = h.wide

-- a body of another kind than the short ones is as in a frame
pub is_framed : (k : ℕ) (b : List ℕ) (c : Command) → k ≢ 32 → k ≢ 33 → SpellsBody k b c → SpellsCommand k b c
is_framed _ _ _ n m (framed k b c h) = h
is_framed _ _ _ n m (short_steps first second pid rows h k) = absurd (n refl)
is_framed _ _ _ n m (short_deliver field pid h) = absurd (m refl)

-- ---- short bodies that are read

pub width_of_steps : (b : List ℕ) → HasWidth 32 b → length b ≡ 4
unfolding width_of
width_of_steps b h = h.width

pub width_of_deliver : (b : List ℕ) → HasWidth 33 b → length b ≡ 2
unfolding width_of
width_of_deliver b h = h.width

pub steps_read : (b : List ℕ) (pid rows : ℕ) → HasWidth 32 b → pid ≡ big_number 2 (take 2 b) → rows ≡ big_number 2 (drop 2 b) → SpellsEvent 32 b (Node (event.Steps pid rows))
steps_read b pid rows h p r =
    let wide = width_of_steps b h in (
      Node (event.Steps pid rows),
      subst (λ (l : List ℕ). SpellsBody 32 l (Node (event.Steps pid rows))) (take-append-drop 2 b)
          (short_steps (take 2 b) (drop 2 b) pid rows (record { wide = omega (arith, wide, length-take 2 b); value = sym p }) (record { wide = omega (arith, wide, length-drop 2 b); value = sym r })),
      refl,
    )

pub deliver_read : (b : List ℕ) (pid : ℕ) → HasWidth 33 b → pid ≡ big_number 2 b → SpellsEvent 33 b (Node (event.Deliver pid))
deliver_read b pid h p = (Node (event.Deliver pid), short_deliver b pid (record { wide = width_of_deliver b h; value = sym p }), refl)
