-- A piece of a journal's file that a node entered: whether it is the last one or not, it is what the reader gave.
use Rattle.std.proofs.Common.{◌≡◌, Bool, true, false, map, refl, sym, true≢false}
use Rattle.beam_journal_file.specs.JournalRead.{HasRead, IsOver, JournalRead, ReadsOn, gives}
use Rattle.beam_machine.specs.Prelude.{sent_event_of}
use Rattle.beam_recall.specs.Recalling.{EntersAll, EntersThose}
use Rattle.beam_recall.proofs.FileRead.{all_of_the_file, read_so_far, recalled_is_read, those_of_the_file}
use Rattle.beam_shared.specs.Prelude.{Node}

pub record IsPiece (is_over : Bool) (reader end : JournalRead) (old new : Node) : Type 0 where
  pub read : HasRead reader (map sent_event_of old.journal) → HasRead end (map sent_event_of new.journal)
  pub on : ReadsOn reader end
  pub over : is_over ≡ true → IsOver end

pub is_piece : (is_over : Bool) (reader end : JournalRead) (old new : Node) → (is_over ≡ false → EntersThose gives reader old end new)
    → (is_over ≡ true → EntersAll gives reader old end new) → IsPiece is_over reader end old new
is_piece true reader end old new those all =
    let to_the_end = all_of_the_file reader end old new (all refl) in
    record { read = recalled_is_read reader end old new (all refl); on = to_the_end.0; over = λ e. to_the_end.1 }
is_piece false reader end old new those all = record {
  read = read_so_far reader end old new (those refl);
  on = those_of_the_file reader end old new (those refl);
  over = λ e. absurd (true≢false (sym e));
}
