-- The bytes that the arm found are the key and the word.
use Rattle.std.proofs.Common.{codes, rules}
use Rattle.depot_text.proofs.Bytes.{text_reads}
use Rattle.depot_text.proofs.item.word_item.Goals as goal

pub returns-in-kind-depot : goal.returns-in-kind-depot
returns-in-kind-depot c =
    rw (text_reads (codes "kind") c.args.key.now (search rules), text_reads (codes "depot") c.args.value.now (search rules))

pub returns-in-to-target : goal.returns-in-to-target
returns-in-to-target c =
    rw (text_reads (codes "to") c.args.key.now (search rules), text_reads (codes "target") c.args.value.now (search rules))

pub returns-in-end-depot : goal.returns-in-end-depot
returns-in-end-depot c =
    rw (text_reads (codes "end") c.args.key.now (search rules), text_reads (codes "depot") c.args.value.now (search rules))
