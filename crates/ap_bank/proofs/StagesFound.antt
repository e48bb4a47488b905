-- The stage in which a port of a file is written.
use Rattle.std.proofs.Common.{◌≡◌, ℕ, zero, suc, ◌+◌, ◌-◌, ◌<◌, ◌≤◌, ◌==◌, ◌&&◌, ◌||◌, Bool, true, false, List, [], ◌∷◌, ◌++◌, length, drop, refl, sym, ap, subst, ◌∙◌, arith, Some, None, length-append}
use Rattle.std.specs.Prelude.{All, Option, find, if◌then◌else◌, nat_le}
use Rattle.std.specs.List.{list_any}
use Rattle.std.proofs.lemmas.Bool.{and_parts, eqb-true, leb-true}
use Rattle.ap_desc.specs.Clean.{IsClean}
use Rattle.ap_desc.specs.Ports.{micros_in}
use Rattle.ap_desc.specs.declared.design.Design.{Design}
use Rattle.ap_desc.specs.declared.design.Micro.{Micro}
use Rattle.ap_model.specs.declared.storage.WritePort.{WritePort}
use Rattle.ap_model.specs.declared.storage.WritePort.TheVariants as port
use Rattle.ap_model.specs.Ports.{is_used_in, writes_in, writes_through}
use Rattle.ap_model.proofs.WritesApart.{writes_apart}
use Rattle.ap_ctl.specs.Lists.{EachFrom}
use Rattle.ap_bank.specs.PortStages.{AreWriteStages, IsPortStage, writes_cell}

-- the first of two lists
pub find_front : {X : Type 0} (p : X → Bool) (xs ys : List X) (x : X) → find p xs ≡ Some x → find p (xs ++ ys) ≡ Some x
find_front p [] ys x h = cc
find_front {X = X} p (z ∷ xs) ys x h = go (p z) refl h (find_front p xs ys x)
  where
    go : (b : Bool) → p z ≡ b → find p (z ∷ xs) ≡ Some x → (find p xs ≡ Some x → find p (xs ++ ys) ≡ Some x) → find p (z ∷ xs ++ ys) ≡ Some x
    go true e h rest = ap (λ b. if b then Some z else find p (xs ++ ys)) e ∙ sym (ap (λ b. if b then Some z else find p xs) e) ∙ h
    go false e h rest = ap (λ b. if b then Some z else find p (xs ++ ys)) e ∙ rest (sym (ap (λ b. if b then Some z else find p xs) e) ∙ h)

pub find_back : {X : Type 0} (p : X → Bool) (xs ys : List X) → find p xs ≡ None → find p (xs ++ ys) ≡ find p ys
find_back p [] ys h = refl
find_back {X = X} p (z ∷ xs) ys h = go (p z) refl h (find_back p xs ys)
  where
    go : (b : Bool) → p z ≡ b → find p (z ∷ xs) ≡ None → (find p xs ≡ None → find p (xs ++ ys) ≡ find p ys) → find p (z ∷ xs ++ ys) ≡ find p ys
    go true e h rest = absurd (let clash : Some z ≡ None = sym (ap (λ b. if b then Some z else find p xs) e) ∙ h in cc)
    go false e h rest = ap (λ b. if b then Some z else find p (xs ++ ys)) e ∙ rest (sym (ap (λ b. if b then Some z else find p xs) e) ∙ h)

-- a line that is found makes the port used in its stage
found_used : (p : WritePort) (micros : List Micro) (m : Micro) → find (λ (x : Micro). writes_through p x.act) micros ≡ Some m → list_any (writes_in m.stage p) micros ≡ true
found_used p [] m h = cc
found_used p (x ∷ micros) m h = go (writes_through p x.act) refl h (found_used p micros m)
  where
    test : Micro → Bool
    test y = writes_through p y.act

    go : (b : Bool) → writes_through p x.act ≡ b → find (λ (y : Micro). writes_through p y.act) (x ∷ micros) ≡ Some m → (find (λ (y : Micro). writes_through p y.act) micros ≡ Some m → list_any (writes_in m.stage p) micros ≡ true)
        → list_any (writes_in m.stage p) (x ∷ micros) ≡ true
    go true e h rest =
        let is : x ≡ m = let s : Some x ≡ Some m = sym (ap (λ b. if b then Some x else find (λ (y : Micro). writes_through p y.act) micros) e) ∙ h in cc in
        let self : (x.stage == m.stage) ≡ true = ap (λ (y : Micro). y.stage == m.stage) is ∙ itself m.stage in
        ap (λ b. (b && writes_through p x.act) || list_any (writes_in m.stage p) micros) self ∙ ap (λ b. b || list_any (writes_in m.stage p) micros) e
      where
        itself : (n : ℕ) → (n == n) ≡ true
        itself n = grind arith
    go false e h rest =
        let none : ((x.stage == m.stage) && writes_through p x.act) ≡ false = ap (λ b. (x.stage == m.stage) && b) e ∙ off (x.stage == m.stage) in
        ap (λ b. b || list_any (writes_in m.stage p) micros) none ∙ rest (sym (ap (λ b. if b then Some x else find (λ (y : Micro). writes_through p y.act) micros) e) ∙ h)
      where
        off : (b : Bool) → (b && false) ≡ false
        off true = refl
        off false = refl

-- where none is found, the port is used in no stage
none_used : (p : WritePort) (stage : ℕ) (micros : List Micro) → find (λ (x : Micro). writes_through p x.act) micros ≡ None → list_any (writes_in stage p) micros ≡ false
none_used p stage [] h = refl
none_used p stage (x ∷ micros) h = go (writes_through p x.act) refl h (none_used p stage micros)
  where
    go : (b : Bool) → writes_through p x.act ≡ b → find (λ (y : Micro). writes_through p y.act) (x ∷ micros) ≡ None → (find (λ (y : Micro). writes_through p y.act) micros ≡ None → list_any (writes_in stage p) micros ≡ false)
        → list_any (writes_in stage p) (x ∷ micros) ≡ false
    go true e h rest = absurd (let clash : Some x ≡ None = sym (ap (λ b. if b then Some x else find (λ (y : Micro). writes_through p y.act) micros) e) ∙ h in cc)
    go false e h rest =
        let none : ((x.stage == stage) && writes_through p x.act) ≡ false = ap (λ b. (x.stage == stage) && b) e ∙ off (x.stage == stage) in
        ap (λ b. b || list_any (writes_in stage p) micros) none ∙ rest (sym (ap (λ b. if b then Some x else find (λ (y : Micro). writes_through p y.act) micros) e) ∙ h)
      where
        off : (b : Bool) → (b && false) ≡ false
        off true = refl
        off false = refl

same_bool : (x y : Bool) → (x ≡ true → y ≡ true) → (y ≡ true → x ≡ true) → x ≡ y
same_bool true true f g = refl
same_bool false false f g = refl
same_bool true false f g = sym (f refl)
same_bool false true f g = g refl

pub stage_found : (design : Design) (file number : ℕ) (m : Micro) → IsClean design → find (writes_cell file number) (micros_in design) ≡ Some m → IsPortStage design file number m.stage
stage_found design file number m clean h =
    let p : WritePort = port.Cell file number in
    let apart = writes_apart design clean in
    let here : is_used_in design m.stage p ≡ true = found_used p (micros_in design) m h in
    let some = apart.some_stage p (used_somewhere (micros_in design) here) in
    let same : m.stage ≡ some.0 = apart.one_stage p m.stage some.0 here some.3 in
    record {
      within = subst (λ n. n ≤ design.stages - 1) (sym same) some.2;
      used = λ other low. same_bool (m.stage == other) (is_used_in design other p) (λ e. subst (λ n. is_used_in design n p ≡ true) (eqb-true m.stage other e) here)
          (λ u. let e = apart.one_stage p m.stage other here u in equal m.stage other e);
    }
  where
    equal : (a b : ℕ) → a ≡ b → (a == b) ≡ true
    equal a b e = grind arith

    used_somewhere : (micros : List Micro) → list_any (writes_in m.stage (port.Cell file number)) micros ≡ true → list_any (λ (x : Micro). writes_through (port.Cell file number) x.act) micros ≡ true
    used_somewhere [] e = e
    used_somewhere (x ∷ micros) e = pick (x.stage == m.stage) (writes_through (port.Cell file number) x.act) (list_any (writes_in m.stage (port.Cell file number)) micros) (list_any (λ (x : Micro). writes_through (port.Cell file number) x.act) micros) e (used_somewhere micros)
      where
        pick : (a b r q : Bool) → ((a && b) || r) ≡ true → (r ≡ true → q ≡ true) → (b || q) ≡ true
        pick a true r q e f = refl
        pick true false r q e f = f e
        pick false false r q e f = f e

pub stage_none : (design : Design) (file number : ℕ) → find (writes_cell file number) (micros_in design) ≡ None → IsPortStage design file number 0
stage_none design file number h = record { within = omega arith; used = λ other low. differs other low ∙ sym (none_used (port.Cell file number) other (micros_in design) h) }
  where
    differs : (other : ℕ) → 1 ≤ other → (0 == other) ≡ false
    differs other low = grind arith

-- One more port.

pub each_push : {X : Type 0} (P : ℕ → X → Type 0) (first : ℕ) (xs : List X) (x : X) → EachFrom P first xs → P (first + length xs) x → EachFrom P first (xs ++ x ∷ [])
each_push P first [] x h p = let here : first + 0 ≡ first = omega arith in (subst (λ n. P n x) here p, tt)
each_push P first (y ∷ xs) x h p = let next : first + suc (length xs) ≡ first + 1 + length xs = omega arith in (h.0, each_push P (first + 1) xs x h.1 (subst (λ n. P n x) next p))

pub stages_push : (design : Design) (file number : ℕ) (stages : List ℕ) (stage : ℕ) → AreWriteStages design file number stages → IsPortStage design file number stage → AreWriteStages design file (number + 1) (stages ++ stage ∷ [])
stages_push design file number stages stage h p =
    let l = length-append stages (stage ∷ []) in
    let e = h.count in
    let here : number ≡ 0 + length stages = omega arith in
    record { count = omega arith; each = each_push (IsPortStage design file) 0 stages stage h.each (subst (λ n. IsPortStage design file n stage) here p) }

pub few_stages : (design : Design) → IsClean design → design.stages ≤ 8
few_stages design clean = leb-true design.stages 8 (and_parts (nat_le 2 design.stages) (nat_le design.stages 8) clean.sound.within.stages).1

pub none_left : {X : Type 0} (o : Option X) → ((x : X) → o ≡ Some x → ⊥) → o ≡ None
none_left None h = refl
none_left (Some x) h = absurd (h x refl)

pub drop_all : {X : Type 0} (n : ℕ) (xs : List X) → length xs ≤ n → drop n xs ≡ []
drop_all zero [] le = refl
drop_all zero (x ∷ xs) le = absurd (omega arith)
drop_all (suc n) [] le = refl
drop_all (suc n) (x ∷ xs) le = drop_all n xs (omega arith)

-- all stages are below 8
pub stages_below : (design : Design) (file first : ℕ) (stages : List ℕ) → design.stages ≤ 8 → EachFrom (IsPortStage design file) first stages → All (λ stage. stage < 8) stages
stages_below design file first [] few h k d lt = absurd (omega arith)
stages_below design file first (s ∷ stages) few h zero d lt = let w = h.0.within in omega arith
stages_below design file first (s ∷ stages) few h (suc k) d lt = stages_below design file (first + 1) stages few h.1 k d (omega arith)
