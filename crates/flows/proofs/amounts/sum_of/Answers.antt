use Rattle.std.proofs.Common.{rules, ◌≡◌, ◌^◌, ◌≤◌, sum, arith}
use Rattle.std.proofs.lemmas.List.Elements.{All-from_get_or}
use Rattle.std.proofs.lemmas.List.Sums.{sum_by-le}
use Rattle.flows.proofs.amounts.sum_of.Goals as goal

pub returns : goal.returns
returns c =
    let xs = c.args.entries.now in
    let e : c.sum.result ≡ sum xs = search rules in
    let each = All-from_get_or (λ x. x ≤ 2 ^ 32) xs 0 (λ i h. omega (arith, c.type_inv.entries i)) in
    record { value = e; bound = omega (arith, e, sum_by-le (λ x. x) (2 ^ 32) xs each) }
