-- The programs, and their texts.
use Rattle.std.specs.Prelude.{ℕ, List, codes, ◌++◌}
use Rattle.beam_tools.specs.declared.program.Program.{Program}
use Rattle.beam_tools.specs.declared.program.Program.TheVariants.{Assembler, Disassembler, Node}

abbrev pub name_of : Program → List ℕ
name_of Assembler = codes "beamas"
name_of Disassembler = codes "beamdis"
name_of Node = codes "beamnode"

abbrev pub usage_of : Program → List ℕ
usage_of Assembler = codes "usage: beamas [-v] [--all] IN.S OUT.beam\n"
usage_of Disassembler = codes "usage: beamdis [-v] IN.beam\n"
usage_of Node =
    codes "usage: beamnode [-v] call --module M --function F [--args LIST] [--steps N] FILE..\n"
    ++ codes "       beamnode [-v] pipe\n"
    ++ codes "       beamnode [-v] serve [--port P] [--socket PATH] [--socket-mode MODE]\n"
    ++ codes "                [--socket-clients S] [--http P] [--http-token FILE]\n"
    ++ codes "                [--connections K] [--clients C] [--schedulers N]\n"
    ++ codes "                [--log LEVEL] [--idle SECONDS]\n"
    ++ codes "                [--stop-when-full] [--journal-limit N] [--journal FILE]\n"
    ++ codes "                [--sync WHEN] [--start M:F] [FILE..]\n"
    ++ codes "       beamnode [-v] replay [--upto N] [--print FROM..TO] [--inspect PID] FILE\n"
    ++ codes "       beamnode [-v] replay [--upto N] --pipe FILE\n"

-- the version of all three
abbrev pub version : List ℕ
version = codes "0.1.0"

abbrev pub version_of : Program → List ℕ
version_of p = name_of p ++ codes " " ++ version ++ codes "\n"

abbrev pub help_of : Program → List ℕ
help_of Assembler =
    codes "Assembles IN.S, a listing in the compiler's form, to the file OUT.beam.\n\n"
    ++ codes "usage: beamas [-v] [--all] IN.S OUT.beam\n\n"
    ++ codes "  -v, --verbose  after a fault, a second line tells where\n"
    ++ codes "      --all      after it, a line for each form that is refused\n"
    ++ codes "  -h, --help     prints this text\n"
    ++ codes "  -V, --version  prints name and version\n\n"
    ++ codes "status: 0 OUT.beam is written; 1 a file is refused, or memory;\n"
    ++ codes "  2 a wrong command line\n"
help_of Disassembler =
    codes "Prints the listing that the file IN.beam spells, also if it can't be loaded.\n\n"
    ++ codes "usage: beamdis [-v] IN.beam\n\n"
    ++ codes "  -v, --verbose  after a fault, a second line tells where\n"
    ++ codes "  -h, --help     prints this text\n"
    ++ codes "  -V, --version  prints name and version\n\n"
    ++ codes "status: 0 the listing is printed; 1 the file, the output or memory is refused;\n"
    ++ codes "  2 a wrong command line\n"
help_of Node =
    codes "Runs compiled Erlang modules.\n\n"
    ++ codes "usage: beamnode [-v] call --module M --function F [--args LIST] [--steps N] FILE..\n"
    ++ codes "       beamnode [-v] pipe\n"
    ++ codes "       beamnode [-v] serve [--port P] [--socket PATH] [--socket-mode MODE]\n"
    ++ codes "                [--socket-clients S] [--http P] [--http-token FILE]\n"
    ++ codes "                [--connections K] [--clients C] [--schedulers N]\n"
    ++ codes "                [--log LEVEL] [--idle SECONDS]\n"
    ++ codes "                [--stop-when-full] [--journal-limit N] [--journal FILE]\n"
    ++ codes "                [--sync WHEN] [--start M:F] [FILE..]\n"
    ++ codes "       beamnode [-v] replay [--upto N] [--print FROM..TO] [--inspect PID] FILE\n"
    ++ codes "       beamnode [-v] replay [--upto N] --pipe FILE\n\n"
    ++ codes "call loads the files in order and prints the value of a function.\n"
    ++ codes "pipe answers the commands on standard input.\n"
    ++ codes "serve loads the files in order, starts a process with M:F, and answers the\n"
    ++ codes "  commands of connections to 127.0.0.1 or to a socket.\n"
    ++ codes "replay runs the entries of a journal's file again, and says what they are.\n\n"
    ++ codes "  --module M          the module's name\n"
    ++ codes "  --function F        the function's name\n"
    ++ codes "  --args LIST         its arguments, a list as Erlang text (default: [])\n"
    ++ codes "  --steps N           the most rows that are run (default: 1000000)\n"
    ++ codes "  --port P            the port, below 65536; 0 is one that is free\n"
    ++ codes "  --socket PATH       a Unix-domain socket beside the port, or without one\n"
    ++ codes "  --socket-mode MODE  who may connect to it, as chmod has it (default: 600)\n"
    ++ codes "  --socket-clients S  how many of its connections are served at once, 1 to 16\n"
    ++ codes "                      (default: 4)\n"
    ++ codes "  --http P            the port of a page over the node, and of its metrics\n"
    ++ codes "  --http-token FILE   asks for a token there, which is written to FILE\n"
    ++ codes "  --connections K     how many connections are served (default: 0, no end)\n"
    ++ codes "  --clients C         how many of the port's at once, 1 to 16 (default: 1)\n"
    ++ codes "  --schedulers N      the threads that run processes, 1 to 64 (default: 2)\n"
    ++ codes "  --log LEVEL         what is told: error, warn or info (default: warn)\n"
    ++ codes "  --idle SECONDS      a session ends that is silent so long (default: 0, never)\n"
    ++ codes "  --stop-when-full    the node ends when its journal is full\n"
    ++ codes "  --journal-limit N   its most entries, 1 to 16777216 (default: 16777216)\n"
    ++ codes "  --journal FILE      keeps the journal in FILE; a node that has one comes back\n"
    ++ codes "  --sync WHEN         when FILE is on the device: always before an answer,\n"
    ++ codes "                      each second, or no (default: second)\n"
    ++ codes "  --start M:F         a function without arguments that a process starts with\n"
    ++ codes "  --upto N            ends before entry N\n"
    ++ codes "  --print FROM..TO    prints a line for each entry n with FROM <= n < TO\n"
    ++ codes "  --inspect PID       prints process PID, as it is after the last entry\n"
    ++ codes "  --pipe              answers the commands on standard input from there on\n"
    ++ codes "  -v, --verbose       after a fault, a second line tells where\n"
    ++ codes "  -h, --help          prints this text\n"
    ++ codes "  -V, --version       prints name and version\n\n"
    ++ codes "status: 0 success; 1 a file, a process, a stream, the output or memory is\n"
    ++ codes "  refused; 2 a wrong command line; 3 process 1 ended with another reason;\n"
    ++ codes "  4 no process can run; 5 the rows are spent\n"
