use Rattle.std.proofs.Common.{◌≡◌, ◌+◌, ◌++◌, ℕ, List, subst, take}
use Rattle.beam_remote.specs.Prelude.{Tape}
use Rattle.beam_remote.proofs.Bytes.{gave}
use Rattle.beam_remote.proofs.memory.Memory.give.Goals as goal

pub returns-clause-input : goal.returns-clause-input
returns-clause-input c =
    let at : ℕ = c.self.inside.at in
    let read = c.copy_front-count in
    let piece : List ℕ = take read.result read.new.buffer in
    let given = c.deref.result.now in
    let is : take (at + read.result) given ≡ take at given ++ piece = gave given at read.result piece read.ensures.copied in
    let items : take (at + read.result) c.self.inside.given.items ≡ take at c.self.inside.given.items ++ piece =
    subst (λ (g : List ℕ). take (at + read.result) g ≡ take at g ++ piece) c.deref.ensures.value is in
    subst (λ (t : Tape). take (at + read.result) c.self.inside.given.items ≡ take t.at t.given ++ piece) c.self.view_is items
