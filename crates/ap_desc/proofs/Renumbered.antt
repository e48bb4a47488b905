-- The statements of a description at the lines 1, 2 and so on are a description.
use Rattle.std.proofs.Common.{◌≡◌, ℕ, ◌+◌, ◌<◌, List, [], ◌∷◌, map, refl, sym, ap, subst, arith}
use Rattle.std.specs.Prelude.{IsTrue}
use Rattle.std.specs.List.{AllByRecursion as Each}
use Rattle.ap_desc.specs.declared.description.Numbered.{Numbered}
use Rattle.ap_desc.specs.declared.statement.Statement.{Statement}
use Rattle.ap_desc.specs.Descriptions.{IsDescription, RiseAbove}
use Rattle.ap_desc.specs.Order.{are_in_order, is_complete}
use Rattle.ap_desc.specs.Shown.{renumbered}
use Rattle.ap_desc.specs.Spelling.{IsSpellable}

same_statements : (line : ℕ) (statements : List Numbered) → map (λ (n : Numbered). n.statement) (renumbered line statements) ≡ map (λ (n : Numbered). n.statement) statements
same_statements line [] = refl
same_statements line (n ∷ statements) = ap (λ l. n.statement ∷ l) (same_statements (line + 1) statements)

spellable : (line : ℕ) (statements : List Numbered) → Each (λ (n : Numbered). IsSpellable n.statement) statements → Each (λ (n : Numbered). IsSpellable n.statement) (renumbered line statements)
spellable line [] h = tt
spellable line (n ∷ statements) h = (h.0, spellable (line + 1) statements h.1)

rise : (before line : ℕ) (statements : List Numbered) → before < line → RiseAbove before (renumbered line statements)
rise before line [] lt = tt
rise before line (n ∷ statements) lt = (lt, rise line (line + 1) statements (omega arith))

pub renumbered_description : (statements : List Numbered) → IsDescription statements → IsDescription (renumbered 1 statements)
renumbered_description statements h = record {
  spelled = spellable 1 statements h.spelled;
  lines = rise 0 1 statements (omega arith);
  order = subst (λ (l : List Statement). IsTrue (are_in_order [] l)) (sym (same_statements 1 statements)) h.order;
  complete = subst (λ (l : List Statement). IsTrue (is_complete l)) (sym (same_statements 1 statements)) h.complete;
}
