use Rattle.beam_listing.proofs.HeadMeans.{module_means, exports_means, attributes_means, labels_means}
use Rattle.beam_listing.proofs.ItemMeans.{item_means}
use Rattle.beam_listing.proofs.OperandMeans.{operand_told, operand_read}
use Rattle.beam_listing.proofs.laws.forms_mean.Goals as goal

pub returns-clause-module_head : goal.returns-clause-module_head
returns-clause-module_head c name form = (module_means.read form name, module_means.told form name)

pub returns-clause-exports_head : goal.returns-clause-exports_head
returns-clause-exports_head c signatures form = (exports_means.read form signatures, exports_means.told form signatures)

pub returns-clause-attributes_head : goal.returns-clause-attributes_head
returns-clause-attributes_head c about form = (attributes_means.read form about, attributes_means.told form about)

pub returns-clause-labels_head : goal.returns-clause-labels_head
returns-clause-labels_head c n form = (labels_means.read form n, labels_means.told form n)

pub returns-clause-item : goal.returns-clause-item
returns-clause-item c x form = (item_means.read form x, item_means.told form x)

pub returns-clause-operand : goal.returns-clause-operand
returns-clause-operand c kind o text = (operand_read kind text o, operand_told kind text o)
