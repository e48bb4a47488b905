-- The stages in which ports are used first, noted line by line.
use Rattle.std.proofs.Common.{◌≡◌, ℕ, zero, suc, ◌+◌, ◌<◌, ◌≤◌, Bool, true, false, List, [], ◌∷◌, ◌++◌, length, get_or, set, take, replicate, Option, Some, None, inl, inr, refl, sym, subst, ap, ◌∙◌, arith, eqb-true, flat_map}
use Rattle.std.specs.Prelude.{◌==◌, is_some, not, slice_get, if◌then◌else◌}
use Rattle.std.specs.Option.{option_map_or}
use Rattle.std.proofs.lemmas.Bool.{cases_eq, eq-eqb, ne_eqb}
use Rattle.std.proofs.lemmas.List.{append-nil, get_or-replicate, get_or-set_same, get_or-set_other, length-replicate, length-set, take_all, take_more}
use Rattle.std.proofs.lemmas.Grind.{flat_map-append}
use Rattle.std.proofs.lemmas.Option.{get_or_from_slice_get, same_Some, slice_get_within}
use Rattle.ap_desc.specs.declared.design.Design.{Design}
use Rattle.ap_desc.specs.declared.design.Instr.{Instr}
use Rattle.ap_desc.specs.declared.design.Micro.{Micro}
use Rattle.ap_ports.specs.Elsewhere.{AreFirstStages, AreNoted, either, first_stage, uses_number}
use Rattle.ap_ports.specs.Numbers.{port_number}

either_none : (o : Option ℕ) → either o None ≡ o
either_none None = refl
either_none (Some n) = refl

either_assoc : (a b c : Option ℕ) → either (either a b) c ≡ either a (either b c)
either_assoc None b c = refl
either_assoc (Some n) b c = refl

first_here : (port : ℕ) (m : Micro) (rest : List Micro) → uses_number port m.act ≡ true → first_stage port (m ∷ rest) ≡ Some m.stage
first_here port m rest e = ap (λ b. if b then Some m.stage else first_stage port rest) e

first_later : (port : ℕ) (m : Micro) (rest : List Micro) → uses_number port m.act ≡ false → first_stage port (m ∷ rest) ≡ first_stage port rest
first_later port m rest e = ap (λ b. if b then Some m.stage else first_stage port rest) e

pub first_append : (port : ℕ) (xs ys : List Micro) → first_stage port (xs ++ ys) ≡ either (first_stage port xs) (first_stage port ys)
first_append port [] ys = refl
first_append port (x ∷ xs) ys = go (first_append port xs ys) (uses_number port x.act) refl where
  go : first_stage port (xs ++ ys) ≡ either (first_stage port xs) (first_stage port ys) → (b : Bool) → uses_number port x.act ≡ b → first_stage port (x ∷ (xs ++ ys)) ≡ either (first_stage port (x ∷ xs)) (first_stage port ys)
  go rest true e = first_here port x (xs ++ ys) e ∙ sym (ap (λ o. either o (first_stage port ys)) (first_here port x xs e))
  go rest false e = first_later port x (xs ++ ys) e ∙ rest ∙ sym (ap (λ o. either o (first_stage port ys)) (first_later port x xs e))

pub uses_from : (port : ℕ) (m : Micro) (n : ℕ) → port_number m.act ≡ Some n → n ≡ port → uses_number port m.act ≡ true
uses_from port m n e same = ap (λ o. option_map_or (λ k. k == port) o false) e ∙ eq-eqb n port same

pub unused_from : (port : ℕ) (m : Micro) (n : ℕ) → port_number m.act ≡ Some n → (n ≡ port → ⊥) → uses_number port m.act ≡ false
unused_from port m n e other = ap (λ o. option_map_or (λ k. k == port) o false) e ∙ ne_eqb n port other

without_port : (port : ℕ) (m : Micro) → port_number m.act ≡ None → uses_number port m.act ≡ false
without_port port m e = ap (λ o. option_map_or (λ k. k == port) o false) e

uses_by : (port : ℕ) (o : Option ℕ) → option_map_or (λ k. k == port) o false ≡ true → o ≡ Some port
uses_by port None e = absurd cc
uses_by port (Some n) e = ap Some (eqb-true n port e)

pub uses_to : (port : ℕ) (m : Micro) → uses_number port m.act ≡ true → port_number m.act ≡ Some port
uses_to port m e = uses_by port (port_number m.act) e

-- Noting.

pub noted_none : (old : List (Option ℕ)) → AreNoted old old []
noted_none old = (refl, λ port low. sym (either_none (get_or old port None)))

one_more : (old : Option ℕ) (port : ℕ) (xs : List Micro) (m : Micro) → either (either old (first_stage port xs)) (first_stage port (m ∷ [])) ≡ either old (first_stage port (xs ++ m ∷ []))
one_more old port xs m = either_assoc old (first_stage port xs) (first_stage port (m ∷ [])) ∙ ap (either old) (sym (first_append port xs (m ∷ [])))

-- a line that adds nothing: it uses no port, or one that is noted
pub noted_same : (old new : List (Option ℕ)) (xs : List Micro) (m : Micro) → AreNoted old new xs
    → ((port : ℕ) → port < length old → either (get_or new port None) (first_stage port (m ∷ [])) ≡ get_or new port None) → AreNoted old new (xs ++ m ∷ [])
noted_same old new xs m noted adds = (noted.0, λ port low. sym (adds port low) ∙ ap (λ o. either o (first_stage port (m ∷ []))) (noted.1 port low) ∙ one_more (get_or old port None) port xs m)

pub noted_without : (old new : List (Option ℕ)) (xs : List Micro) (m : Micro) → AreNoted old new xs → port_number m.act ≡ None → AreNoted old new (xs ++ m ∷ [])
noted_without old new xs m noted none = noted_same old new xs m noted (λ port low. ap (either (get_or new port None)) (first_later port m [] (without_port port m none)) ∙ either_none (get_or new port None))

some_stays : (o more : Option ℕ) (s : ℕ) → o ≡ Some s → either o more ≡ o
some_stays o more s e = ap (λ x. either x more) e ∙ sym e

pub noted_already : (old new : List (Option ℕ)) (xs : List Micro) (m : Micro) → AreNoted old new xs → (n s : ℕ) → port_number m.act ≡ Some n → get_or new n None ≡ Some s → AreNoted old new (xs ++ m ∷ [])
noted_already old new xs m noted n s number has = noted_same old new xs m noted adds where
  adds : (port : ℕ) → port < length old → either (get_or new port None) (first_stage port (m ∷ [])) ≡ get_or new port None
  adds port low = elim (cases_eq n port) [
    | inl same ↦ some_stays (get_or new port None) (first_stage port (m ∷ [])) s (ap (λ k. get_or new k None) (sym same) ∙ has)
    | inr other ↦ ap (either (get_or new port None)) (first_later port m [] (unused_from port m n number other)) ∙ either_none (get_or new port None)
  ]

-- a line with a port that wasn't noted
pub noted_more : (old new : List (Option ℕ)) (xs : List Micro) (m : Micro) → AreNoted old new xs → (n : ℕ) → port_number m.act ≡ Some n → n < length new → get_or new n None ≡ None
    → AreNoted old (set new n (Some m.stage)) (xs ++ m ∷ [])
noted_more old new xs m noted n number within none = (length-set new n (Some m.stage) ∙ noted.0, each) where
  each : (port : ℕ) → port < length old → get_or (set new n (Some m.stage)) port None ≡ either (get_or old port None) (first_stage port (xs ++ m ∷ []))
  each port low = elim (cases_eq port n) [
    | inl same ↦
        let here : get_or (set new n (Some m.stage)) port None ≡ Some m.stage = ap (λ k. get_or (set new n (Some m.stage)) k None) same ∙ get_or-set_same new n (Some m.stage) None within in
        let empty : get_or new port None ≡ None = ap (λ k. get_or new k None) same ∙ none in
        here ∙ sym (sym (one_more (get_or old port None) port xs m) ∙ ap (λ o. either o (first_stage port (m ∷ []))) (sym (noted.1 port low) ∙ empty) ∙ first_here port m [] (uses_from port m n number (sym same)))
    | inr other ↦
        get_or-set_other new n port (Some m.stage) None other ∙ noted.1 port low
        ∙ sym (sym (one_more (get_or old port None) port xs m) ∙ ap (either (either (get_or old port None) (first_stage port xs))) (first_later port m [] (unused_from port m n number (λ e. other (sym e)))) ∙ either_none (either (get_or old port None) (first_stage port xs)))
  ]

-- lines noted one after another
pub noted_both : (old mid new : List (Option ℕ)) (xs ys : List Micro) → AreNoted old mid xs → AreNoted mid new ys → AreNoted old new (xs ++ ys)
noted_both old mid new xs ys one two = (
  two.0 ∙ one.0,
  λ port low.
      two.1 port (let same = one.0 in omega arith) ∙ ap (λ o. either o (first_stage port ys)) (one.1 port low)
      ∙ either_assoc (get_or old port None) (first_stage port xs) (first_stage port ys) ∙ ap (either (get_or old port None)) (sym (first_append port xs ys)),
)

abbrev pub micros_of : List Instr → List Micro
micros_of instrs = flat_map (λ (i : Instr). i.micros) instrs

pub one_instr_more : (instrs : List Instr) (k : ℕ) (instr : Instr) → slice_get instrs k ≡ Some instr → micros_of (take (k + 1) instrs) ≡ micros_of (take k instrs) ++ instr.micros
one_instr_more instrs k instr at =
    let low = slice_get_within instrs k instr at in
    ap micros_of (take_more instrs k instr low ∙ ap (λ i. take k instrs ++ i ∷ []) (get_or_from_slice_get instrs k instr instr at))
    ∙ flat_map-append (λ (i : Instr). i.micros) (take k instrs) (instr ∷ []) ∙ ap (λ ms. micros_of (take k instrs) ++ ms) (append-nil instr.micros)

pub noted_all : (design : Design) (new : List (Option ℕ)) (k : ℕ) → length design.instrs ≤ k → AreNoted (replicate 153 None) new (micros_of (take k design.instrs)) → AreFirstStages design new
noted_all design new k past noted =
    let long = length-replicate {A = Option ℕ} 153 None in (
      noted.0 ∙ long,
      λ port low.
          noted.1 port (omega arith) ∙ ap (λ o. either o (first_stage port (micros_of (take k design.instrs)))) (get_or-replicate {A = Option ℕ} 153 port None None low)
          ∙ ap (λ xs. first_stage port (micros_of xs)) (take_all k design.instrs past),
    )

-- What the first stage says.

-- a line that uses the port first, and its place
pub record IsFirstUse (port stage : ℕ) (xs : List Micro) : Type 0 where
  pub place : ℕ
  pub micro : Micro
  pub is_line : slice_get xs place ≡ Some micro
  pub number : port_number micro.act ≡ Some port
  pub at : micro.stage ≡ stage
  pub before : (i : ℕ) (m : Micro) → slice_get xs i ≡ Some m → port_number m.act ≡ Some port → place ≤ i

pub first_use : (port : ℕ) (xs : List Micro) (stage : ℕ) → first_stage port xs ≡ Some stage → IsFirstUse port stage xs
first_use port [] stage e = absurd cc
first_use port (x ∷ xs) stage e = go (λ rest. first_use port xs stage rest) (uses_number port x.act) refl where
  go : (first_stage port xs ≡ Some stage → IsFirstUse port stage xs) → (b : Bool) → uses_number port x.act ≡ b → IsFirstUse port stage (x ∷ xs)
  go rest true u = record {
    place = 0;
    micro = x;
    is_line = refl;
    number = uses_to port x u;
    at = same_Some x.stage stage (sym (first_here port x xs u) ∙ e);
    before = λ i m at number. omega arith;
  }
  go rest false u =
      let later = rest (sym (first_later port x xs u) ∙ e) in
      record {
        place = suc later.place;
        micro = later.micro;
        is_line = later.is_line;
        number = later.number;
        at = later.at;
        before = not_here u later;
      }
    where
      not_here : uses_number port x.act ≡ false → (later : IsFirstUse port stage xs) → (i : ℕ) (m : Micro) → slice_get (x ∷ xs) i ≡ Some m → port_number m.act ≡ Some port → suc later.place ≤ i
      not_here u later zero m at number =
          let is : x ≡ m = same_Some x m at in
          let uses : uses_number port x.act ≡ true = uses_from port x port (ap (λ (y : Micro). port_number y.act) is ∙ number) refl in
          absurd cc
      not_here u later (suc i) m at number = let le : later.place ≤ i = later.before i m at number in omega arith

pub some_use : (port : ℕ) (xs : List Micro) (i : ℕ) (m : Micro) → slice_get xs i ≡ Some m → port_number m.act ≡ Some port → (stage : ℕ) × (first_stage port xs ≡ Some stage)
some_use port [] i m at number = absurd cc
some_use port (x ∷ xs) zero m at number =
    let is : x ≡ m = same_Some x m at in
    (x.stage, first_here port x xs (uses_from port x port (ap (λ (y : Micro). port_number y.act) is ∙ number) refl))
some_use port (x ∷ xs) (suc i) m at number = go (some_use port xs i m at number) (uses_number port x.act) refl where
  go : ((stage : ℕ) × (first_stage port xs ≡ Some stage)) → (b : Bool) → uses_number port x.act ≡ b → (stage : ℕ) × (first_stage port (x ∷ xs) ≡ Some stage)
  go rest true u = (x.stage, first_here port x xs u)
  go (stage, e) false u = (stage, first_later port x xs u ∙ e)

-- The steps of a loop over lines, the line at a place read by any default.

pub step_without : (old new : List (Option ℕ)) (micros : List Micro) (k : ℕ) (d : Micro) → k < length micros → AreNoted old new (take k micros) → port_number (get_or micros k d).act ≡ None → AreNoted old new (take (k + 1) micros)
step_without old new micros k d low noted none = subst (AreNoted old new) (sym (take_more micros k d low)) (noted_without old new (take k micros) (get_or micros k d) noted none)

pub step_already : (old new : List (Option ℕ)) (micros : List Micro) (k : ℕ) (d : Micro) → k < length micros → AreNoted old new (take k micros) → (n s : ℕ) → port_number (get_or micros k d).act ≡ Some n → get_or new n None ≡ Some s
    → AreNoted old new (take (k + 1) micros)
step_already old new micros k d low noted n s number has = subst (AreNoted old new) (sym (take_more micros k d low)) (noted_already old new (take k micros) (get_or micros k d) noted n s number has)

pub step_more : (old new : List (Option ℕ)) (micros : List Micro) (k : ℕ) (d : Micro) → k < length micros → AreNoted old new (take k micros) → (n : ℕ) → port_number (get_or micros k d).act ≡ Some n → n < length new → get_or new n None ≡ None
    → AreNoted old (set new n (Some (get_or micros k d).stage)) (take (k + 1) micros)
step_more old new micros k d low noted n number within none =
    subst (AreNoted old (set new n (Some (get_or micros k d).stage))) (sym (take_more micros k d low)) (noted_more old new (take k micros) (get_or micros k d) noted n number within none)

pub instr_step : (old mid new : List (Option ℕ)) (instrs : List Instr) (k : ℕ) (instr : Instr) (micros : List Micro) → slice_get instrs k ≡ Some instr → micros ≡ instr.micros → AreNoted old mid (micros_of (take k instrs)) → AreNoted mid new micros
    → AreNoted old new (micros_of (take (k + 1) instrs))
instr_step old mid new instrs k instr micros at same one two =
    subst (AreNoted old new) (sym (one_instr_more instrs k instr at)) (noted_both old mid new (micros_of (take k instrs)) instr.micros one (subst (AreNoted mid new) same two))

pub none_there : (o : Option ℕ) (b : Bool) → is_some o ≡ not b → b ≡ true → o ≡ None
none_there None b e so = refl
none_there (Some n) b e so = absurd (let wrong : true ≡ false = e ∙ ap not so in cc)

pub some_there : (o : Option ℕ) (b : Bool) → is_some o ≡ not b → b ≡ false → (s : ℕ) × (o ≡ Some s)
some_there None b e fails = absurd (let wrong : false ≡ true = e ∙ ap not fails in cc)
some_there (Some n) b e fails = (n, refl)
