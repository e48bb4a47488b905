-- How a file grows by pieces: steps on the map of files, and on what a desk tells of it.
use Rattle.std.proofs.Common.{◌≡◌, ℕ, ◌+◌, ◌≤◌, min, List, [], ◌∷◌, ◌++◌, length, take, drop, Bool, true, false, cond, Some, None, Option, refl, sym, ap, subst, inl, inr, ⊎_elim, ◌∙◌, arith, append_assoc, append-nil, length-take}
use Rattle.std.proofs.Math.Seq.{take-add}
use Rattle.std.proofs.lemmas.List.{take-take, take_all}
use Rattle.std.proofs.lemmas.Bool.{cases_lt}
use Rattle.std.specs.Prelude.{unwrap_or, ◌⊎◌}
use Rattle.std.specs.Cmp.Lexicographic.{nat_list_cmp_total}
use Rattle.std.specs.FinMap.{get, insert, get-insert, same_map, slice_cmp-IsAntisymmetric, nat_cmp-IsAntisymmetric}
use Rattle.ap_desk.specs.Files.{Files, content, Goes, Becomes, BecomesFrontOrStays, Gains, GainsFront, Stands}
use Rattle.ap_desk.proofs.Maps.{tied, tied_decides}

same : (a b : Files) → ((q : List ℕ) → get a q ≡ get b q) → a ≡ b
same a b h = same_map nat_list_cmp_total (slice_cmp-IsAntisymmetric nat_cmp-IsAntisymmetric) a b h

at_insert : (f : Files) (name v q : List ℕ) → get (insert f name v) q ≡ cond (tied q name) (Some v) (get f q)
at_insert f name v q = get-insert nat_list_cmp_total f name v q

-- what was set is there
get_set : (f : Files) (name v : List ℕ) → get (insert f name v) name ≡ Some v
get_set f name v = at_insert f name v name ∙ rw ((tied_decides name name).1 refl) refl

content_set : (f : Files) (name v : List ℕ) → content (insert f name v) name ≡ v
content_set f name v = ap (λ o. unwrap_or o []) (get_set f name v)

twice : {X : Type 0} (b : Bool) (x y z : X) → cond b x (cond b y z) ≡ cond b x z
twice true x y z = refl
twice false x y z = refl

-- the later value stands
set_twice : (f : Files) (name v w : List ℕ) → insert (insert f name v) name w ≡ insert f name w
set_twice f name v w = same _ _ (λ q. at_insert (insert f name v) name w q ∙ ap (cond (tied q name) (Some w)) (at_insert f name v q) ∙ twice (tied q name) (Some w) (Some v) (get f q) ∙ sym (at_insert f name w q))

-- to set what is there changes nothing
set_same : (f : Files) (name v : List ℕ) → get f name ≡ Some v → insert f name v ≡ f
set_same f name v h = same _ _ (λ q. at_insert f name v q ∙ go q (tied q name) refl)
  where
    go : (q : List ℕ) (b : Bool) → tied q name ≡ b → cond b (Some v) (get f q) ≡ get f q
    go q true t = sym h ∙ ap (get f) (sym ((tied_decides q name).0 t))
    go q false t = refl

-- two pieces in a row are one
gains_twice : (a b c : Files) (name x y : List ℕ) → Gains name x a b → Gains name y b c → Gains name (x ++ y) a c
gains_twice a b c name x y p q =
    q ∙ (rw p (rw content_set (set_twice a name (content a name ++ x) ((content a name ++ x) ++ y)))) ∙ ap (insert a name) (append_assoc (content a name) x y)

-- the file has gained the first n bytes of the text, where n is 0 by no step at all
abbrev pub GainsSoFar : List ℕ → List ℕ → ℕ → Files → Files → Type 0
GainsSoFar name text n old new = ((n ≡ 0) × (new ≡ old)) ⊎ Gains name (take n text) old new

pub gains_none : (f : Option Files) (name text : List ℕ) → Goes (GainsSoFar name text 0) f f
gains_none None name text = tt
gains_none (Some f) name text = inl (refl, refl)

step : (a b c : Files) (name text piece : List ℕ) (i e : ℕ) → take i text ++ piece ≡ take e text → GainsSoFar name text i a b → Gains name piece b c → Gains name (take e text) a c
step a b c name text piece i e joined p q = ⊎_elim
    (λ none. let start : piece ≡ take e text = ap (λ n. take n text ++ piece) (sym none.0) ∙ joined in
    subst (λ f. c ≡ insert f name (content f name ++ take e text)) none.1 (rw (← start) q))
    (λ some. subst (λ l. Gains name l a c) joined (gains_twice a b c name (take i text) piece some q))
    p

pub gains_more : (a b c : Option Files) (name text piece : List ℕ) (i e : ℕ) → take i text ++ piece ≡ take e text → Goes (GainsSoFar name text i) a b → Goes (Gains name piece) b c → Goes (GainsSoFar name text e) a c
gains_more None None None name text piece i e joined p q = tt
gains_more None None (Some c) name text piece i e joined p q = absurd q
gains_more None (Some b) c name text piece i e joined p q = absurd p
gains_more (Some a) None c name text piece i e joined p q = absurd p
gains_more (Some a) (Some b) None name text piece i e joined p q = absurd q
gains_more (Some a) (Some b) (Some c) name text piece i e joined p q = inr (step a b c name text piece i e joined p q)

take_both : (m n : ℕ) (l : List ℕ) → take m (take n l) ≡ take (min m n) l
take_both m n l = ⊎_elim
    (λ lt. let e : min m n ≡ n = omega arith in let short : length (take n l) ≤ m = omega (arith, length-take n l) in take_all m (take n l) short ∙ ap (λ k. take k l) (sym e))
    (λ le. let e : min m n ≡ m = omega arith in take-take m n l le ∙ ap (λ k. take k l) (sym e))
    (cases_lt n m)

-- a front of what follows joins to a front of the whole
join_front : (i m n : ℕ) (text : List ℕ) → take i text ++ take m (take n (drop i text)) ≡ take (i + min m n) text
join_front i m n text = ap (λ l. take i text ++ l) (take_both m n (drop i text)) ∙ sym (take-add i (min m n) text)

front : (a b c : Files) (name text : List ℕ) (i n : ℕ) → GainsSoFar name text i a b → GainsFront name (take n (drop i text)) b c → GainsFront name text a c
front a b c name text i n p q = ⊎_elim
    (λ stays. ⊎_elim (λ none. inl (stays ∙ none.1)) (λ some. inr (i, stays ∙ some)) p)
    (λ more. inr (i + min more.0 n, step a b c name text (take more.0 (take n (drop i text))) i (i + min more.0 n) (join_front i more.0 n text) p more.1))
    q

-- a front of the next piece after the pieces so far is a front of the text
pub gains_front : (a b c : Option Files) (name text : List ℕ) (i n : ℕ) → Goes (GainsSoFar name text i) a b → Goes (GainsFront name (take n (drop i text))) b c → Goes (GainsFront name text) a c
gains_front None None None name text i n p q = tt
gains_front None None (Some c) name text i n p q = absurd q
gains_front None (Some b) c name text i n p q = absurd p
gains_front (Some a) None c name text i n p q = absurd p
gains_front (Some a) (Some b) None name text i n p q = absurd q
gains_front (Some a) (Some b) (Some c) name text i n p q = front a b c name text i n p q

done : (a b : Files) (name text : List ℕ) (n : ℕ) → length text ≤ n → (text ≡ [] → Stands name (Some a)) → GainsSoFar name text n a b → Gains name text a b
done a b name text n all there p = ⊎_elim
    (λ none. let empty : text ≡ [] = nothing text (let z : length text ≤ 0 = omega (arith, none.0) in z) in
    none.1 ∙ sym (rw empty (set_same a name (content a name ++ []) (rw append-nil (there empty)))))
    (λ some. subst (λ l. Gains name l a b) (take_all n text all) some)
    p
  where
    nothing : (l : List ℕ) → length l ≤ 0 → l ≡ []
    nothing [] z = refl
    nothing (x ∷ xs) z = absurd (omega arith)

-- at the end of the text all of it was gained
pub gains_all : (a b : Option Files) (name text : List ℕ) (n : ℕ) → length text ≤ n → (text ≡ [] → Stands name a) → Goes (GainsSoFar name text n) a b → Goes (Gains name text) a b
gains_all None None name text n all there p = tt
gains_all None (Some b) name text n all there p = absurd p
gains_all (Some a) None name text n all there p = absurd p
gains_all (Some a) (Some b) name text n all there p = done a b name text n all there p

-- what was set is there
pub becomes_stands : (a b : Option Files) (name bytes : List ℕ) → Goes (Becomes name bytes) a b → Stands name b
becomes_stands None None name bytes p = tt
becomes_stands None (Some b) name bytes p = absurd p
becomes_stands (Some a) None name bytes p = absurd p
becomes_stands (Some a) (Some b) name bytes p = rw p (get_set a name bytes ∙ ap Some (sym (content_set a name bytes)))

-- an empty file that gains a text holds that text
becomes_gains : (a b c : Files) (name text : List ℕ) → Becomes name [] a b → Gains name text b c → Becomes name text a c
becomes_gains a b c name text p q = q ∙ rw p (rw content_set (set_twice a name [] text))

pub becomes_all : (a b c : Option Files) (name text : List ℕ) → Goes (Becomes name []) a b → Goes (Gains name text) b c → Goes (Becomes name text) a c
becomes_all None None None name text p q = tt
becomes_all None None (Some c) name text p q = absurd q
becomes_all None (Some b) c name text p q = absurd p
becomes_all (Some a) None c name text p q = absurd p
becomes_all (Some a) (Some b) None name text p q = absurd q
becomes_all (Some a) (Some b) (Some c) name text p q = becomes_gains a b c name text p q

pub becomes_front : (a b c : Option Files) (name text : List ℕ) → Goes (Becomes name []) a b → Goes (GainsFront name text) b c → Goes (BecomesFrontOrStays name text) a c
becomes_front None None None name text p q = tt
becomes_front None None (Some c) name text p q = absurd q
becomes_front None (Some b) c name text p q = absurd p
becomes_front (Some a) None c name text p q = absurd p
becomes_front (Some a) (Some b) None name text p q = absurd q
becomes_front (Some a) (Some b) (Some c) name text p q = ⊎_elim
    (λ stays. inr (0, stays ∙ p))
    (λ more. inr (more.0, becomes_gains a b c name (take more.0 text) p more.1))
    q
