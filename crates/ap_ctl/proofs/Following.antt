-- What the nets beside the valid bits follow from.
use Rattle.std.proofs.Common.{ℕ, List, [], ◌∷◌, ◌++◌, flat_map, inl, inr, refl}
use Rattle.std.specs.List.{AllByRecursion as Each}
use Rattle.ap_net.specs.declared.cell.Wire.{Wire}
use Rattle.ap_net.specs.Draft.{Draft, CanFresh}
use Rattle.ap_net.specs.Pending.{Among, IsFrom}
use Rattle.ap_net.specs.Ready.{numbers}
use Rattle.ap_net.proofs.Laws.{IsFrom-more}
use Rattle.ap_ctl.specs.declared.move_on.Gates.{Gates}
use Rattle.ap_ctl.specs.declared.nets.ControlGiven.{ControlGiven}
use Rattle.ap_ctl.specs.Building.{BuildsComparing, Gives, GivesComparing, GivesEach, GivesEachComparing}
use Rattle.ap_ctl.specs.declared.field.FieldTest.{FieldTest}
use Rattle.ap_ctl.specs.Given.{holding, killing}
use Rattle.ap_ctl.specs.Moves.{AreGates, busy_numbers, next_numbers}
use Rattle.ap_ctl.proofs.Built.{Builds-fewer, Each-join, Each-map, Each-weaker, Gives-after, GivesEach-after, Tells-Builds, among_all}
use Rattle.ap_ctl.proofs.Stages.{among_l, among_r}

-- more nets to be from
wider : (from more : List ℕ) (a b : Draft) → ((n : ℕ) → Among more n → Among from n) → (n : ℕ) → IsFrom more a b n → IsFrom from a b n
wider from more a b f n (inl h) = inl (f n h)
wider from more a b f n (inr h) = inr h

module _ (given : ControlGiven) (valid : List Wire) where
  -- with what decides on being held alone, or with what decides on a kill too
  module _ (last : List ℕ) (held : (n : ℕ) → Among (holding given) n → Among last n) where
    abbrev whole : List ℕ
    whole = numbers valid ++ last

    words_in : (n : ℕ) → Among (numbers given.words) n → Among whole n
    words_in n h = among_r (numbers valid) last n (held n (inr (among_l (numbers given.words) (numbers given.busy) n h)))

    valid_in : (n : ℕ) → Among (numbers valid) n → Among whole n
    valid_in n h = among_l (numbers valid) last n h

    busy_in : (n : ℕ) → Among (numbers given.busy) n → Among whole n
    busy_in n h = among_r (numbers valid) last n (held n (inr (among_r (numbers given.words) (numbers given.busy) n h)))

    wait_in : Among whole given.mwait.number
    wait_in = among_r (numbers valid) last given.mwait.number (held given.mwait.number (inl refl))

    pub hold_gives : {ps : List (Wire × FieldTest)} (a b c : Draft) (decoded : List (List Wire)) (hold : Wire) → CanFresh a → BuildsComparing ps (numbers given.words) a b → Each (IsFrom (numbers given.words) a b) (flat_map numbers decoded) → Gives (busy_numbers valid decoded given) b c hold → GivesComparing ps whole a c hold
    hold_gives a b c decoded hold fresh p came g =
        let q = Builds-fewer whole (numbers given.words) a b fresh p (Each-weaker (Among (numbers given.words)) (Among whole) words_in (numbers given.words) (among_all (numbers given.words))) in
        Gives-after whole (busy_numbers valid decoded given) a b c hold q g (
          inl wait_in,
          Each-join (IsFrom whole a b) (numbers valid ++ flat_map numbers decoded) (numbers given.busy)
              (Each-join (IsFrom whole a b) (numbers valid) (flat_map numbers decoded)
              (Each-weaker (Among (numbers valid)) (IsFrom whole a b) (λ n h. inl (valid_in n h)) (numbers valid) (among_all (numbers valid)))
              (Each-weaker (IsFrom (numbers given.words) a b) (IsFrom whole a b) (wider whole (numbers given.words) a b words_in) (flat_map numbers decoded) came))
              (Each-weaker (Among (numbers given.busy)) (IsFrom whole a b) (λ n h. inl (busy_in n h)) (numbers given.busy) (among_all (numbers given.busy))),
        )

  holds_in : (n : ℕ) → Among (holding given) n → Among (killing given) n
  holds_in n h = inr h

  abbrev all : List ℕ
  all = numbers valid ++ killing given

  valid_from : (a x : Draft) → Each (IsFrom all a x) (numbers valid)
  valid_from a x = Each-weaker (Among (numbers valid)) (IsFrom all a x) (λ n h. inl (among_l (numbers valid) (killing given) n h)) (numbers valid) (among_all (numbers valid))

  -- the gates, what fires, and the whole
  pub gates_give : {ps : List (Wire × FieldTest)} (a b c d : Draft) (decoded : List (List Wire)) (g : Gates) → CanFresh a → BuildsComparing ps (numbers given.words) a b → Each (IsFrom (numbers given.words) a b) (flat_map numbers decoded)
      → Gives (busy_numbers valid decoded given) b c g.hold → GivesEach (g.hold.number ∷ given.taken.number ∷ []) c d (g.goes ∷ g.kill ∷ g.lives ∷ []) → GivesEachComparing ps (numbers valid ++ killing given) a d (g.goes ∷ g.kill ∷ g.lives ∷ [])
  gates_give a b c d decoded g fresh p came one two =
      let hold = hold_gives (killing given) holds_in a b c decoded g.hold fresh p came one in
      let taken : IsFrom all a c given.taken.number = inl (among_r (numbers valid) (killing given) given.taken.number (inl refl)) in
      GivesEach-after all (g.hold.number ∷ given.taken.number ∷ []) a c d (g.goes ∷ g.kill ∷ g.lives ∷ []) hold.builds two (hold.result, (taken, tt))

  pub fires_give : {ps : List (Wire × FieldTest)} (a d e : Draft) (g : Gates) (fires : List Wire) → GivesEachComparing ps (numbers valid ++ killing given) a d (g.goes ∷ g.kill ∷ g.lives ∷ [])
      → GivesEach (g.goes.number ∷ g.lives.number ∷ numbers valid) d e fires → GivesEachComparing ps (numbers valid ++ killing given) a e fires
  fires_give a d e g fires gates three = GivesEach-after all (g.goes.number ∷ g.lives.number ∷ numbers valid) a d e fires gates.builds three (gates.results.0, (gates.results.1.1.0, valid_from a d))

  pub rest_builds : {ps : List (Wire × FieldTest)} (a b c d e f : Draft) (decoded : List (List Wire)) (g : Gates) (fires next : List Wire) → CanFresh a → BuildsComparing ps (numbers given.words) a b → Each (IsFrom (numbers given.words) a b) (flat_map numbers decoded)
      → Gives (busy_numbers valid decoded given) b c g.hold → GivesEach (g.hold.number ∷ given.taken.number ∷ []) c d (g.goes ∷ g.kill ∷ g.lives ∷ []) → GivesEach (g.goes.number ∷ g.lives.number ∷ numbers valid) d e fires
      → GivesEach (next_numbers g valid fires) e f next → BuildsComparing ps (numbers valid ++ killing given) a f
  rest_builds a b c d e f decoded g fires next fresh p came one two three four =
      let hold = hold_gives (killing given) holds_in a b c decoded g.hold fresh p came one in
      let gates = gates_give a b c d decoded g fresh p came one two in
      let fire = fires_give a d e g fires gates three in
      let later : (n : ℕ) → IsFrom all a d n → IsFrom all a e n = λ n h. IsFrom-more all a d e n three.builds.reads.extends h in
      let held : IsFrom all a e g.hold.number = later g.hold.number (IsFrom-more all a c d g.hold.number two.builds.reads.extends hold.result) in
      (GivesEach-after all (next_numbers g valid fires) a e f next fire.builds four
      (held, (later g.goes.number gates.results.0, (later g.lives.number gates.results.1.1.0, Each-join (IsFrom all a e) (numbers valid) (numbers fires) (valid_from a e) (Each-map (IsFrom all a e) (λ (w : Wire). w.number) fires fire.results))))).builds

pub gates_later : {ps : List (Wire × FieldTest)} {from : List ℕ} {a b : Draft} (taken : Wire) (g : Gates) → BuildsComparing ps from a b → AreGates a taken g → AreGates b taken g
gates_later taken g p h = record { goes = Tells-Builds p h.goes; kill = Tells-Builds p h.kill; lives = Tells-Builds p h.lives }
