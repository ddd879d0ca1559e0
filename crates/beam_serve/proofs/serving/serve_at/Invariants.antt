use Rattle.beam_serve.specs.Limits.{limit_for}
use Rattle.beam_serve.proofs.serving.serve_at.Given as goal

abbrev pub ghosts-serve_node-B-NodeBrand : goal.ghosts-serve_node-B-NodeBrand
ghosts-serve_node-B-NodeBrand g a = record { table = a.unbranded; limit = limit_for a.line.now.journal a.line.now.journal_limit }

abbrev pub ghosts-serve_node-B-QueueBrand : goal.ghosts-serve_node-B-QueueBrand
ghosts-serve_node-B-QueueBrand g a = record { deques = a.queues }
