-- Every table is well formed.
use Rattle.std.proofs.Common.{arith}
use Rattle.process.specs.Process.{Formed}
use Rattle.encoding.specs.Reading.{process_read}
use Rattle.encoding.proofs.Formed.{read-formed}
use Rattle.table.specs.declared.Table.{Table}
use Rattle.table.specs.View.{lists_of}

pub formed_table : (t : Table) → Formed 1000 (process_read (lists_of t))
formed_table t = read-formed 1000 (lists_of t) (omega arith) (omega arith) t.ok
