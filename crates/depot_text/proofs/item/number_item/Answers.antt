-- The bytes that the arm found are the key.
use Rattle.std.proofs.Common.{codes, rules}
use Rattle.depot_text.proofs.Bytes.{text_reads}
use Rattle.depot_text.proofs.item.number_item.Goals as goal

pub returns-in-states : goal.returns-in-states
returns-in-states c = rw (text_reads (codes "states") c.args.key.now (search rules))

pub returns-in-option : goal.returns-in-option
returns-in-option c = rw (text_reads (codes "option") c.args.key.now (search rules))

pub returns-in-weight : goal.returns-in-weight
returns-in-weight c = rw (text_reads (codes "weight") c.args.key.now (search rules))
