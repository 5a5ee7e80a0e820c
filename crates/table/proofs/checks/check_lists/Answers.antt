use Rattle.std.proofs.Common.{length, sym, arith}
use Rattle.std.proofs.lemmas.Bool.{and_parts}
use Rattle.refusal.proofs.Tests.{between-says, all_pass}
use Rattle.encoding.specs.Lent.{lent}
use Rattle.encoding.specs.Answers.{lengths_fit, starts_fit}
use Rattle.table.proofs.checks.check_lists.Goals as goal

pub bad_sum-requires : goal.bad_sum-requires
bad_sum-requires c =
    let l = lent c.args.lists in
    let long = all_pass (λ t. t) 0 (lengths_fit l) (sym c.in_default.ensures) in
    let rise = all_pass (λ t. t) 0 (starts_fit l) (sym c.in_default-bad_starts.ensures) in
    record {
      least = omega (arith, (between-says 2 16385 (length c.args.lists.starts.now) long.1.0).0);
      rise = rise.1.0;
      most = (between-says 2 131072 (length c.args.lists.moves.now) (and_parts _ _ long.1.1.0).0).1;
    }
