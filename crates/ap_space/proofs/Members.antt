-- What goes to each storage, goes to the log.
use Rattle.std.proofs.Common.{◌≡◌, ◌↔◌, ℕ, zero, suc, ◌<◌, Bool, true, false, cond, List, [], ◌∷◌, Contains, filter, get_or, length, ◌⊎◌, inl, inr, refl, ap, ◌∙◌, subst, sym, arith}
use Rattle.std.proofs.lemmas.Bool.{and_from, eq-eqb}
use Rattle.ap_model.specs.WritesOf.{goes_to}
use Rattle.ap_model.specs.declared.state.Entry.{Entry}
use Rattle.ap_model.specs.declared.storage.Storage.{Storage}
use Rattle.ap_model.specs.declared.storage.Storage.TheVariants as storage
use Rattle.ap_model.specs.declared.storage.WritePort.{WritePort}
use Rattle.ap_model.specs.declared.storage.WritePort.TheVariants as port
use Rattle.ap_space.specs.Prefix.{entries_to}

later_in : {X : Type 0} (y : X) (ys : List X) (x : X) → Contains ys x → Contains (y ∷ ys) x
later_in y ys x c = (suc c.0, (let less = c.1 in omega arith), c.2)

cases_in : {X : Type 0} (y : X) (ys : List X) (x : X) (k : ℕ) → k < suc (length ys) → get_or (y ∷ ys) k x ≡ x → (y ≡ x) ⊎ Contains ys x
cases_in y ys x zero less e = inl e
cases_in y ys x (suc k) less e = inr (k, omega arith, e)

-- a filter keeps what passes, and nothing else
in_filter : {X : Type 0} (t : X → Bool) (xs : List X) (x : X) → Contains xs x → t x ≡ true → Contains (filter t xs) x
in_filter t [] x c passes = c
in_filter {X} t (y ∷ ys) x c passes = by_case (cases_in y ys x c.0 c.1 c.2) (t y) refl (λ d. in_filter t ys x d passes)
  where
    by_case : (y ≡ x) ⊎ Contains ys x → (b : Bool) → t y ≡ b → (Contains ys x → Contains (filter t ys) x) → Contains (cond b (y ∷ filter t ys) (filter t ys)) x
    by_case (inl same) true e rest = (0, omega arith, same)
    by_case (inl same) false e rest = let never : false ≡ true = sym e ∙ ap t same ∙ passes in absurd cc
    by_case (inr there) true e rest = later_in y (filter t ys) x (rest there)
    by_case (inr there) false e rest = rest there

from_filter : {X : Type 0} (t : X → Bool) (xs : List X) (x : X) → Contains (filter t xs) x → Contains xs x
from_filter t [] x c = c
from_filter {X} t (y ∷ ys) x c = by_test (t y) c (λ d. from_filter t ys x d)
  where
    by_test : (b : Bool) → Contains (cond b (y ∷ filter t ys) (filter t ys)) x → (Contains (filter t ys) x → Contains ys x) → Contains (y ∷ ys) x
    by_test true d rest = by_case (cases_in y (filter t ys) x d.0 d.1 d.2)
      where
        by_case : (y ≡ x) ⊎ Contains (filter t ys) x → Contains (y ∷ ys) x
        by_case (inl same) = (0, omega arith, same)
        by_case (inr there) = later_in y ys x (rest there)
    by_test false d rest = later_in y ys x (rest d)

-- the storage to which a write goes
storage_of : WritePort → ℕ → Storage
storage_of (port.Register reg) at = storage.Register reg
storage_of (port.Cell file number) at = storage.Cell file at
storage_of (port.Memory mem) at = storage.Memory mem

goes_there : (p : WritePort) (at : ℕ) → goes_to (storage_of p at) p at ≡ true
unfolding storage_of
goes_there (port.Register reg) at = eq-eqb reg reg refl
goes_there (port.Cell file number) at = and_from _ _ (eq-eqb file file refl) (eq-eqb at at refl)
goes_there (port.Memory mem) at = eq-eqb mem mem refl

one_way : (log other : List Entry) (e : Entry) → entries_to (storage_of e.write.port e.write.at) log ≡ entries_to (storage_of e.write.port e.write.at) other → Contains log e → Contains other e
one_way log other e same there =
    let goes : Entry → Bool = λ f. goes_to (storage_of e.write.port e.write.at) f.write.port f.write.at in
    from_filter goes other e (subst (λ (es : List Entry). Contains es e) same (in_filter goes log e there (goes_there e.write.port e.write.at)))

-- two logs with the same entries to each storage have the same entries
pub same_members : (log other : List Entry) → ((place : Storage) → entries_to place log ≡ entries_to place other) → (e : Entry) → Contains log e ↔ Contains other e
same_members log other same e = (one_way log other e (same (storage_of e.write.port e.write.at)), one_way other log e (sym (same (storage_of e.write.port e.write.at))))
