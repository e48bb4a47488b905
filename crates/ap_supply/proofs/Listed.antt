-- Lists of entries, as they grow.
use Rattle.std.proofs.Common.{◌≡◌, ℕ, ◌+◌, ◌*◌, ◌<◌, ◌≤◌, ◌==◌, List, [], ◌∷◌, ◌++◌, Some, inl, inr, ⊎_elim, refl, sym, ap, subst, ◌∙◌, append_assoc, arith}
use Rattle.std.specs.Prelude.{◌⊎◌, slice_get}
use Rattle.std.specs.List.{AllByRecursion as Each}
use Rattle.std.specs.Option.{option_map}
use Rattle.std.proofs.lemmas.Bool.{cases_lt, eq-eqb}
use Rattle.ap_course.proofs.Standing.{finds}
use Rattle.ap_desc.proofs.Members.{contains_in, in_contains, in_left, in_right}
use Rattle.ap_desc.specs.declared.design.Design.{Design}
use Rattle.ap_desc.specs.declared.design.File.{File}
use Rattle.ap_net.proofs.Lists.{All-from, All-join, some_same}
use Rattle.ap_stages.specs.Supplies.{supply_of}
use Rattle.ap_stages.specs.declared.nodes.Supplied.{Supplied}
use Rattle.ap_stages.specs.declared.nodes.Supply.{Supply}
use Rattle.ap_supply.specs.Listing.{IsFileNumber, IsListed, IsMemNumber, IsReadNumber, Lists}

pub listed_left : (xs ys : List Supplied) (n : ℕ) → IsListed xs n → IsListed (xs ++ ys) n
listed_left xs ys n h = record { entry = h.entry; among = in_contains (xs ++ ys) h.entry (in_left h.entry xs ys (contains_in xs h.entry h.among)); own = h.own }

pub listed_right : (xs ys : List Supplied) (n : ℕ) → IsListed ys n → IsListed (xs ++ ys) n
listed_right xs ys n h = record { entry = h.entry; among = in_contains (xs ++ ys) h.entry (in_right h.entry xs ys (contains_in ys h.entry h.among)); own = h.own }

listed_one : (e : Supplied) (n : ℕ) → e.number ≡ n → IsListed (e ∷ []) n
listed_one e n own = record { entry = e; among = in_contains (e ∷ []) e (inl refl); own = own }

nothing_more : (xs : List Supplied) → xs ≡ xs ++ []
nothing_more [] = refl
nothing_more (x ∷ xs) = ap (λ l. x ∷ l) (nothing_more xs)

pub lists_none : (Own : Supplied → Type 0) (Wanted : ℕ → Type 0) (xs : List Supplied) → ((n : ℕ) → Wanted n → ⊥) → Lists Own Wanted xs xs
lists_none Own Wanted xs none = record { more = []; is = nothing_more xs; each = tt; all = λ n w. absurd (none n w) }

-- one more entry
pub lists_push : (Own : Supplied → Type 0) (Before After : ℕ → Type 0) (old new next : List Supplied) (e : Supplied) → next ≡ new ++ e ∷ [] → Lists Own Before old new → Own e
    → ((n : ℕ) → After n → Before n ⊎ (e.number ≡ n)) → Lists Own After old next
lists_push Own Before After old new next e step h own covers = record {
  more = h.more ++ e ∷ [];
  is = step ∙ ap (λ l. l ++ e ∷ []) h.is ∙ append_assoc old h.more (e ∷ []);
  each = All-join Own h.more (e ∷ []) h.each (own, tt);
  all = λ n wanted. either n (covers n wanted);
}
  where
    either : (n : ℕ) → Before n ⊎ (e.number ≡ n) → IsListed (h.more ++ e ∷ []) n
    either n (inl before) = listed_left h.more (e ∷ []) n (h.all n before)
    either n (inr same) = listed_right h.more (e ∷ []) n (listed_one e n same)

-- some more entries
pub lists_join : (Own : Supplied → Type 0) (Before More After : ℕ → Type 0) (a b c : List Supplied) → Lists Own Before a b → Lists Own More b c → ((n : ℕ) → After n → Before n ⊎ More n) → Lists Own After a c
lists_join Own Before More After a b c h k covers = record {
  more = h.more ++ k.more;
  is = k.is ∙ ap (λ l. l ++ k.more) h.is ∙ append_assoc a h.more k.more;
  each = All-join Own h.more k.more h.each k.each;
  all = λ n wanted. either n (covers n wanted);
}
  where
    either : (n : ℕ) → Before n ⊎ More n → IsListed (h.more ++ k.more) n
    either n (inl before) = listed_left h.more k.more n (h.all n before)
    either n (inr more) = listed_right h.more k.more n (k.all n more)

pub lists_weaker : (Own : Supplied → Type 0) (Before After : ℕ → Type 0) (old new : List Supplied) → Lists Own Before old new → ((n : ℕ) → After n → Before n) → Lists Own After old new
lists_weaker Own Before After old new h f = record { more = h.more; is = h.is; each = h.each; all = λ n wanted. h.all n (f n wanted) }

-- What holds of each entry that was there and of each that came, holds of all; and what was listed is listed.
pub each_of_both : (Own P : Supplied → Type 0) (Wanted : ℕ → Type 0) (old new : List Supplied) → ((e : Supplied) → Own e → P e) → Each P old → Lists Own Wanted old new → Each P new
each_of_both Own P Wanted old new f each h = subst (Each P) (sym h.is) (All-join P old h.more each (All-from Own P f h.more h.each))

pub listed_on : (Own : Supplied → Type 0) (Wanted : ℕ → Type 0) (old new : List Supplied) (n : ℕ) → Lists Own Wanted old new → IsListed old n → IsListed new n
listed_on Own Wanted old new n h l = subst (λ xs. IsListed xs n) (sym h.is) (listed_left old h.more n l)

pub listed_now : (Own : Supplied → Type 0) (Wanted : ℕ → Type 0) (old new : List Supplied) (n : ℕ) → Lists Own Wanted old new → Wanted n → IsListed new n
listed_now Own Wanted old new n h wanted = subst (λ xs. IsListed xs n) (sym h.is) (listed_right old h.more n (h.all n wanted))

-- something is there for a number that is listed
pub supplied_of : (xs : List Supplied) (n : ℕ) → IsListed xs n → (s : Supply) × (supply_of xs n ≡ Some s)
supplied_of xs n l =
    let (e, found) = finds (λ (e : Supplied). e.number == n) xs l.entry (contains_in xs l.entry l.among) (eq-eqb (l.entry).number n l.own) in
    (e.supply, ap (option_map (λ (e : Supplied). e.supply)) found)

-- Numbers of one more, and of none. ---------------------------------------------------------------------------------------

pub unit_or_last : (count n : ℕ) → n < count + 1 → (n < count) ⊎ (count ≡ n)
unit_or_last count n lt = ⊎_elim (λ less. inl less) (λ more. let same : count ≡ n = omega arith in inr same) (cases_lt n count)

pub read_or_last : (file count m n : ℕ) → m ≡ 32 + 4 * file + count → IsReadNumber file (count + 1) n → IsReadNumber file count n ⊎ (m ≡ n)
read_or_last file count m n e (port, low, is) = ⊎_elim (λ less. inl (port, less, is)) (λ more. let same : m ≡ n = omega arith in inr same) (cases_lt port count)

pub mem_or_last : (count m n : ℕ) → m ≡ 64 + count → IsMemNumber (count + 1) n → IsMemNumber count n ⊎ (m ≡ n)
mem_or_last count m n e (mem, low, is) = ⊎_elim (λ less. inl (mem, less, is)) (λ more. let same : m ≡ n = omega arith in inr same) (cases_lt mem count)

pub file_or_last : (design : Design) (count n : ℕ) (f : File) → slice_get design.files count ≡ Some f → IsFileNumber design (count + 1) n → IsFileNumber design count n ⊎ IsReadNumber count f.reads n
file_or_last design count n f at (file, g, low, there, own) = ⊎_elim (λ less. inl (file, g, less, there, own)) (λ more. inr (last more)) (cases_lt file count)
  where
    last : count ≤ file → IsReadNumber count f.reads n
    last more =
        let same : file ≡ count = omega arith in
        let one : g ≡ f = some_same (sym there ∙ ap (slice_get design.files) same ∙ at) in
        subst (λ (x : File). IsReadNumber count x.reads n) one (subst (λ k. IsReadNumber k g.reads n) same own)

pub no_unit : (n : ℕ) → n < 0 → ⊥
no_unit n lt = absurd (omega arith)

pub no_read : (file n : ℕ) → IsReadNumber file 0 n → ⊥
no_read file n (port, low, is) = no_unit port low

pub no_file : (design : Design) (n : ℕ) → IsFileNumber design 0 n → ⊥
no_file design n (file, g, low, there, own) = no_unit file low

pub no_mem : (n : ℕ) → IsMemNumber 0 n → ⊥
no_mem n (mem, low, is) = no_unit mem low
