use Rattle.beam_laws.proofs.Accounts.{in_order, in_order_from_empty, behind_mailbox}
use Rattle.beam_laws.proofs.order.signals_arrive_in_order.Goals as goal

pub returns-clause-from_empty : goal.returns-clause-from_empty
returns-clause-from_empty c = in_order_from_empty

pub returns-clause-from_any : goal.returns-clause-from_any
returns-clause-from_any c = in_order

pub returns-clause-mailbox : goal.returns-clause-mailbox
returns-clause-mailbox c = behind_mailbox
