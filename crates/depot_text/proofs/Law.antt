-- A text is loaded exactly when it spells a depot that fits.
use Rattle.std.proofs.Common.{◌≡◌, ℕ, ◌≤◌, List, is_ok, Ok, Err, Result, sym, refl, ap, ◌∙◌}
use Rattle.std.specs.List.{flat_map as written_all}
use Rattle.std.proofs.lemmas.Bool.{cond-true, cond-false}
use Rattle.refusal.specs.Tellings.{Telling}
use Rattle.process.specs.declared.size.Size.{Size}
use Rattle.encoding.specs.Lists.{Lists}
use Rattle.encoding.specs.Writing.{encoding}
use Rattle.lines.specs.Writing.{written}
use Rattle.passes.specs.Texts.{lines}
use Rattle.passes.specs.Passes.{filled}
use Rattle.depot_text.specs.declared.item.Item.{Item}
use Rattle.depot_text.specs.declared.progress.Progress.{Progress}
use Rattle.depot_text.specs.declared.progress.Depot.{Depot}
use Rattle.depot_text.specs.Machine.{start}
use Rattle.depot_text.specs.Loading.{depot, next, ended, puts, rules_of, beginning, size, sized, read, answer, left}
use Rattle.depot_text.specs.Spelling.{Tree, process_of, says, depot_items, render, size_of, Fits, spread, LoadedAsSpelled}
use Rattle.depot_text.proofs.Runs.{run}
use Rattle.depot_text.proofs.Texts.{items_of_read, read_of_items, filled_of_items}
use Rattle.depot_text.proofs.Undone.{one_spelling, one_tree}
use Rattle.depot_text.proofs.Proper.{proper_items}
use Rattle.depot_text.proofs.Complete.{spelled_runs, run_writes}
use Rattle.depot_text.proofs.Shapes.{run_spells}

sized_ok : (r : Result Depot Telling) (n : Size) → sized r ≡ Ok n → (m : Depot) × (r ≡ Ok m)
sized_ok (Ok m) n e = (m, refl)
sized_ok (Err f) n e = cc

is_sized : (r : Result Depot Telling) → is_ok (sized r) ≡ is_ok r
is_sized (Ok m) = refl
is_sized (Err f) = refl

-- the text of items
abbrev text_of : List Item → List ℕ
text_of is = written_all (λ i. written (says i)) is

module _ (d first : ℕ) (t : List ℕ) (l : Lists) where
  spells : 1 ≤ d → d ≤ 65536 → (n : Size) → answer d first t l ≡ Ok n → (tree : Tree) × Fits d l tree × (t ≡ render tree)
  spells low high n e =
      let m = sized_ok (read d first t l) n e in
      let is = items_of_read d first t l m.0 m.1 in
      let s = run_spells d first l is.0 m.0.progress low high is.2 in
      (s.0, s.1, is.1 ∙ ap text_of s.2)

  module _ (tree : Tree) (fits : Fits d l tree) (is : t ≡ render tree) where
    -- the run over the depot's own lines
    ran : (y : Progress) × (run (rules_of d l) start first (depot_items tree) ≡ Ok y)
    ran = spelled_runs d first l tree fits

    taken : read d first t l ≡ Ok (depot (rules_of d l) ran.0)
    taken =
        ap (λ t. read d first t l) is ∙ read_of_items d first l (depot_items tree) ran.0 (proper_items d l tree fits) ran.1

    sizes : 1 ≤ d → d ≤ 65536 → size (depot (rules_of d l) ran.0) ≡ size_of tree
    sizes low high =
        let s = run_spells d first l (depot_items tree) ran.0 low high ran.1 in
        s.3 ∙ ap size_of (sym (one_tree tree s.0 s.2))

    fills : left d first t l ≡ spread (encoding (process_of tree)) l
    fills =
        cond-true (is_ok (read d first t l)) _ l (ap is_ok taken)
        ∙ (ap (λ t. filled next ended puts (beginning d l) first (lines t) l) is
        ∙ (filled_of_items d first l (depot_items tree) ran.0 (proper_items d l tree fits) ran.1
        ∙ run_writes d first l tree fits))

  pub loading_law : 1 ≤ d → d ≤ 65536 → LoadedAsSpelled d t l (answer d first t l) (left d first t l)
  loading_law low high =
      record {
        loaded = spells low high;
        spelled =
            λ tree fits is. (ap sized (taken tree fits is) ∙ ap Ok (sizes tree fits is low high), fills tree fits is);
        unique =
            λ a b fa fb ea eb.
            one_tree a b
            (one_spelling (depot_items a) (depot_items b) (proper_items d l a fa) (proper_items d l b fb) (sym ea ∙ eb));
        refused = λ e. cond-false (is_ok (read d first t l)) _ l (sym (is_sized (read d first t l)) ∙ e);
      }

  -- of an answer and lists that are those
  pub loaded_by : (r : Result Size Telling) (new : Lists) → 1 ≤ d → d ≤ 65536
      → r ≡ answer d first t l → new ≡ left d first t l → LoadedAsSpelled d t l r new
  loaded_by r new low high e f = rw (e, f) (loading_law low high)

-- the same, where the first line has the number 1
pub loaded_from_one : (d : ℕ) (t : List ℕ) (l : Lists) (r : Result Size Telling) (new : Lists) → 1 ≤ d → d ≤ 65536
    → r ≡ answer d 1 t l → new ≡ left d 1 t l → LoadedAsSpelled d t l r new
loaded_from_one d t l = loaded_by d 1 t l
