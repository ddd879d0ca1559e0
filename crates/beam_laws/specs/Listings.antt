-- The listings of the stories, line by line as a compiler's .S file has them.
use Rattle.std.specs.Prelude.{ℕ, [], ◌∷◌, codes}
use Rattle.beam_model.specs.Prelude.{Listing}
use Rattle.beam_model.specs.declared.instruction.Argument.{Argument}
use Rattle.beam_term.specs.Prelude.{list_of}
use Rattle.beam_laws.specs.Terms.{atom as atom_value}
use Rattle.beam_laws.specs.Written.{exported, x, y, f, integer, atom, nil, literal, extfunc, label, func_info, move, test_is_eq_exact, gc_bif, call_only, call_ext, call_ext_only, jump, return, allocate, deallocate, get_list, put_list, put_tuple2, catch, catch_end, try, try_case, raise, loop_rec, loop_rec_end, remove_message, wait, wait_timeout, timeout}

-- t: sum(N) adds N down to 0
abbrev pub t : Listing
t = record {
  name = codes "t";
  exports = exported "sum" 1 2 ∷ [];
  label_count = 6;
  function_count = 2;
  instructions =
      label 1
      ∷ func_info (atom "t") (atom "sum") 1
      ∷ label 2
      ∷ move (integer 0) (x 1)
      ∷ call_only 2 (f 4)
      ∷ label 3
      ∷ func_info (atom "t") (atom "sum") 2
      ∷ label 4
      ∷ test_is_eq_exact (f 5) (x 0) (integer 0)
      ∷ move (x 1) (x 0)
      ∷ return
      ∷ label 5
      ∷ gc_bif "+" (f 0) 2 (x 0) (x 1) (x 1)
      ∷ gc_bif "-" (f 0) 2 (x 0) (integer 1) (x 0)
      ∷ call_only 2 (f 4)
      ∷ [];
}

-- h: n(N) counts down to 0 and then calls h:v(), which gives k
abbrev pub h : ℕ → Listing
h k = record {
  name = codes "h";
  exports = exported "n" 1 2 ∷ exported "v" 0 5 ∷ [];
  label_count = 6;
  function_count = 2;
  instructions =
      label 1
      ∷ func_info (atom "h") (atom "n") 1
      ∷ label 2
      ∷ test_is_eq_exact (f 3) (x 0) (integer 0)
      ∷ call_ext_only 0 (extfunc "h" "v" 0)
      ∷ label 3
      ∷ gc_bif "-" (f 0) 1 (x 0) (integer 1) (x 0)
      ∷ call_only 1 (f 2)
      ∷ label 4
      ∷ func_info (atom "h") (atom "v") 0
      ∷ label 5
      ∷ move (integer k) (x 0)
      ∷ return
      ∷ [];
}

-- g: a() calls g:b(), which gives k, and returns what it gave
abbrev pub g : ℕ → Listing
g k = record {
  name = codes "g";
  exports = exported "a" 0 2 ∷ exported "b" 0 4 ∷ [];
  label_count = 5;
  function_count = 2;
  instructions =
      label 1
      ∷ func_info (atom "g") (atom "a") 0
      ∷ label 2
      ∷ allocate 0 0
      ∷ call_ext 0 (extfunc "g" "b" 0)
      ∷ deallocate 0
      ∷ return
      ∷ label 3
      ∷ func_info (atom "g") (atom "b") 0
      ∷ label 4
      ∷ move (integer k) (x 0)
      ∷ return
      ∷ [];
}

-- r: get() receives the atom c, then any message M, and gives {c,M}
abbrev pub r : Listing
r = record {
  name = codes "r";
  exports = exported "get" 0 2 ∷ [];
  label_count = 8;
  function_count = 1;
  instructions =
      label 1
      ∷ func_info (atom "r") (atom "get") 0
      ∷ label 2
      ∷ allocate 1 0
      ∷ label 3
      ∷ loop_rec (f 5) (x 0)
      ∷ test_is_eq_exact (f 4) (x 0) (atom "c")
      ∷ remove_message
      ∷ move (x 0) (y 0)
      ∷ jump (f 6)
      ∷ label 4
      ∷ loop_rec_end (f 3)
      ∷ label 5
      ∷ wait (f 3)
      ∷ label 6
      ∷ loop_rec (f 7) (x 0)
      ∷ remove_message
      ∷ put_tuple2 (x 0) (y 0 ∷ x 0 ∷ [])
      ∷ deallocate 1
      ∷ return
      ∷ label 7
      ∷ wait (f 6)
      ∷ [];
}

-- w: f() receives any message; after a time without one it gives the atom late
abbrev pub w : Argument → Listing
w time = record {
  name = codes "w";
  exports = exported "f" 0 2 ∷ [];
  label_count = 4;
  function_count = 1;
  instructions =
      label 1
      ∷ func_info (atom "w") (atom "f") 0
      ∷ label 2
      ∷ loop_rec (f 3) (x 0)
      ∷ remove_message
      ∷ return
      ∷ label 3
      ∷ wait_timeout (f 2) time
      ∷ timeout
      ∷ move (atom "late") (x 0)
      ∷ return
      ∷ [];
}

-- e: c() catches error(b); t() raises exit(c) again where it handles it
abbrev pub e : Listing
e = record {
  name = codes "e";
  exports = exported "c" 0 2 ∷ exported "t" 0 5 ∷ [];
  label_count = 7;
  function_count = 2;
  instructions =
      label 1
      ∷ func_info (atom "e") (atom "c") 0
      ∷ label 2
      ∷ allocate 1 0
      ∷ catch (y 0) (f 3)
      ∷ move (atom "b") (x 0)
      ∷ call_ext 1 (extfunc "erlang" "error" 1)
      ∷ label 3
      ∷ catch_end (y 0)
      ∷ deallocate 1
      ∷ return
      ∷ label 4
      ∷ func_info (atom "e") (atom "t") 0
      ∷ label 5
      ∷ allocate 1 0
      ∷ try (y 0) (f 6)
      ∷ move (atom "c") (x 0)
      ∷ call_ext 1 (extfunc "erlang" "exit" 1)
      ∷ label 6
      ∷ try_case (y 0)
      ∷ raise (x 2) (x 1)
      ∷ [];
}

-- l: a() marks a catch and goes over to l:b(), which gives k, with the mark in its frame
abbrev pub l : ℕ → Listing
l k = record {
  name = codes "l";
  exports = exported "a" 0 2 ∷ exported "b" 0 5 ∷ [];
  label_count = 6;
  function_count = 2;
  instructions =
      label 1
      ∷ func_info (atom "l") (atom "a") 0
      ∷ label 2
      ∷ allocate 1 0
      ∷ catch (y 0) (f 3)
      ∷ call_ext_only 0 (extfunc "l" "b" 0)
      ∷ label 3
      ∷ catch_end (y 0)
      ∷ deallocate 1
      ∷ return
      ∷ label 4
      ∷ func_info (atom "l") (atom "b") 0
      ∷ label 5
      ∷ catch_end (y 0)
      ∷ deallocate 1
      ∷ move (integer k) (x 0)
      ∷ return
      ∷ [];
}

-- d: a() sleeps 100 milliseconds, and on a message goes over to d:b(), which takes it and gives k
abbrev pub d : ℕ → Listing
d k = record {
  name = codes "d";
  exports = exported "a" 0 2 ∷ exported "b" 0 5 ∷ [];
  label_count = 6;
  function_count = 2;
  instructions =
      label 1
      ∷ func_info (atom "d") (atom "a") 0
      ∷ label 2
      ∷ wait_timeout (f 3) (integer 100)
      ∷ timeout
      ∷ return
      ∷ label 3
      ∷ call_ext_only 0 (extfunc "d" "b" 0)
      ∷ label 4
      ∷ func_info (atom "d") (atom "b") 0
      ∷ label 5
      ∷ remove_message
      ∷ move (integer k) (x 0)
      ∷ return
      ∷ [];
}

-- p: f() receives the atom c and gives it; after 100 milliseconds without one it gives the atom late
abbrev pub p : Listing
p = record {
  name = codes "p";
  exports = exported "f" 0 2 ∷ [];
  label_count = 5;
  function_count = 1;
  instructions =
      label 1
      ∷ func_info (atom "p") (atom "f") 0
      ∷ label 2
      ∷ loop_rec (f 4) (x 0)
      ∷ test_is_eq_exact (f 3) (x 0) (atom "c")
      ∷ remove_message
      ∷ return
      ∷ label 3
      ∷ loop_rec_end (f 2)
      ∷ label 4
      ∷ wait_timeout (f 2) (integer 100)
      ∷ timeout
      ∷ move (atom "late") (x 0)
      ∷ return
      ∷ [];
}

-- o: put(L) puts the atom a before L; exit(L) catches exit(L)
abbrev pub o : Listing
o = record {
  name = codes "o";
  exports = exported "put" 1 2 ∷ exported "exit" 1 4 ∷ [];
  label_count = 6;
  function_count = 2;
  instructions =
      label 1
      ∷ func_info (atom "o") (atom "put") 1
      ∷ label 2
      ∷ put_list (atom "a") (x 0) (x 0)
      ∷ return
      ∷ label 3
      ∷ func_info (atom "o") (atom "exit") 1
      ∷ label 4
      ∷ allocate 1 1
      ∷ catch (y 0) (f 5)
      ∷ call_ext 1 (extfunc "erlang" "exit" 1)
      ∷ label 5
      ∷ catch_end (y 0)
      ∷ deallocate 1
      ∷ return
      ∷ [];
}

-- m: w() starts m:d() and monitors it, then receives any message; d() exits with boom
abbrev pub m : Listing
m = record {
  name = codes "m";
  exports = exported "w" 0 2 ∷ exported "d" 0 6 ∷ [];
  label_count = 7;
  function_count = 2;
  instructions =
      label 1
      ∷ func_info (atom "m") (atom "w") 0
      ∷ label 2
      ∷ move (atom "m") (x 0)
      ∷ move (atom "d") (x 1)
      ∷ move nil (x 2)
      ∷ call_ext 3 (extfunc "erlang" "spawn" 3)
      ∷ move (x 0) (x 1)
      ∷ move (atom "process") (x 0)
      ∷ call_ext 2 (extfunc "erlang" "monitor" 2)
      ∷ label 3
      ∷ loop_rec (f 4) (x 0)
      ∷ remove_message
      ∷ return
      ∷ label 4
      ∷ wait (f 3)
      ∷ label 5
      ∷ func_info (atom "m") (atom "d") 0
      ∷ label 6
      ∷ move (atom "boom") (x 0)
      ∷ call_ext_only 1 (extfunc "erlang" "exit" 1)
      ∷ [];
}

-- k: all(Ps) monitors each of Ps, then receives any message; off(P) monitors P, takes that back, and receives any message; flush(P)
-- monitors P, takes that back with flush once it has a message, and receives any message
abbrev pub k : Listing
k = record {
  name = codes "k";
  exports = exported "all" 1 2 ∷ exported "off" 1 8 ∷ exported "flush" 1 12 ∷ [];
  label_count = 15;
  function_count = 3;
  instructions =
      label 1
      ∷ func_info (atom "k") (atom "all") 1
      ∷ label 2
      ∷ allocate 1 1
      ∷ label 3
      ∷ test_is_eq_exact (f 4) (x 0) nil
      ∷ jump (f 5)
      ∷ label 4
      ∷ get_list (x 0) (x 1) (y 0)
      ∷ move (atom "process") (x 0)
      ∷ call_ext 2 (extfunc "erlang" "monitor" 2)
      ∷ move (y 0) (x 0)
      ∷ jump (f 3)
      ∷ label 5
      ∷ loop_rec (f 6) (x 0)
      ∷ remove_message
      ∷ deallocate 1
      ∷ return
      ∷ label 6
      ∷ wait (f 5)
      ∷ label 7
      ∷ func_info (atom "k") (atom "off") 1
      ∷ label 8
      ∷ move (x 0) (x 1)
      ∷ move (atom "process") (x 0)
      ∷ call_ext 2 (extfunc "erlang" "monitor" 2)
      ∷ call_ext 1 (extfunc "erlang" "demonitor" 1)
      ∷ label 9
      ∷ loop_rec (f 10) (x 0)
      ∷ remove_message
      ∷ return
      ∷ label 10
      ∷ wait (f 9)
      ∷ label 11
      ∷ func_info (atom "k") (atom "flush") 1
      ∷ label 12
      ∷ allocate 1 1
      ∷ move (x 0) (x 1)
      ∷ move (atom "process") (x 0)
      ∷ call_ext 2 (extfunc "erlang" "monitor" 2)
      ∷ move (x 0) (y 0)
      ∷ label 13
      ∷ loop_rec (f 14) (x 0)
      ∷ move (y 0) (x 0)
      ∷ move (literal (list_of (atom_value "flush" ∷ []))) (x 1)
      ∷ call_ext 2 (extfunc "erlang" "demonitor" 2)
      ∷ jump (f 5)
      ∷ label 14
      ∷ wait (f 13)
      ∷ [];
}
