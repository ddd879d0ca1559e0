-- The forms of instructions in a listing (the compiler's .S files), by the numbers of their opcodes.
use Rattle.std.specs.Prelude.{ℕ, Bool, ◌==◌, ◌&&◌, ◌||◌, nat_le, if◌then◌else◌}
use Rattle.beam_model.specs.declared.opcode.Opcode.{Opcode}
use Rattle.beam_model.specs.declared.shape.Shape.{Shape}
use Rattle.beam_model.specs.declared.shape.Shape.TheVariants as shape
use Rattle.beam_model.specs.Opcodes.{number_of}

-- comparisons and type tests
abbrev pub is_test_opcode : ℕ → Bool
is_test_opcode n = (nat_le 39 n && nat_le n 58) || n == 77 || n == 114 || n == 156 || n == 159

abbrev pub shape_by : ℕ → Shape
shape_by n =
    if is_test_opcode n then shape.Test
    else if n == 9 then shape.Bif0
    else if n == 10 || n == 11 then shape.Bif
    else if n == 124 || n == 125 then shape.GcBif
    else if n == 108 then shape.Raise
    else if n == 153 then shape.Line
    else shape.Plain

-- how the instructions of an opcode are written
abbrev pub shape_of : Opcode → Shape
shape_of o = shape_by (number_of o)
