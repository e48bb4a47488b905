-- Every net of the counter is ready, and the outside looks at no more than was said.
use Rattle.std.proofs.Common.{◌≡◌, ℕ, ◌<◌, zero, suc, List, [], ◌∷◌, length, refl, sym, ap, subst, ◌∙◌, arith, inl}
use Rattle.std.specs.Prelude.{slice_get}
use Rattle.std.specs.List.{AllByRecursion as Each}
use Rattle.std.proofs.lemmas.Bool.{lt-ltb}
use Rattle.std.proofs.lemmas.Option.{slice_get_within}
use Rattle.ap_net.specs.Modules.{ModuleText, IsModule, IsNetlist, IsInstanceIn, nets_of}
use Rattle.ap_net.specs.Finished.{IsFinished}
use Rattle.ap_net.specs.Outside.{ports_of}
use Rattle.ap_net.specs.Ready.{Feeds, source, assign, Ready, AreReady, AllReady}
use Rattle.ap_net.specs.Pending.{Among}
use Rattle.ap_net.specs.Responding.{looked_in}
use Rattle.ap_net.specs.Answering.{LooksByPorts}
use Rattle.circuit_tests.specs.Counter.{counter_draft, counter_by, counter_outside}
use Rattle.ap_net.proofs.Drafts.{Extends-refl}
use Rattle.ap_net.proofs.LateSteps.{Ready-Feeds}

by_feeds : (n : ℕ) (from : List ℕ) → Feeds counter_by counter_draft n from → AreReady counter_by counter_draft from → Ready counter_by counter_draft n
by_feeds n from feeds each = Ready-Feeds counter_by counter_draft counter_draft n from (Extends-refl counter_draft) feeds each

pc_ready : Ready counter_by counter_draft 5
pc_ready = by_feeds 5 [] (source _ refl tt refl) tt

one_ready : Ready counter_by counter_draft 6
one_ready = by_feeds 6 [] (assign 0 _ refl refl refl) tt

iaddr_ready : Ready counter_by counter_draft 0
iaddr_ready = by_feeds 0 (5 ∷ []) (assign 2 _ refl refl refl) (pc_ready, tt)

pub counter_ready : AllReady counter_by counter_draft
counter_ready zero lt = iaddr_ready
counter_ready (suc zero) lt = by_feeds 1 (0 ∷ []) (source _ refl tt refl) (iaddr_ready, tt)
counter_ready (suc (suc zero)) lt = by_feeds 2 [] (source _ refl tt refl) tt
counter_ready (suc (suc (suc zero))) lt = by_feeds 3 [] (assign 3 _ refl refl refl) tt
counter_ready (suc (suc (suc (suc zero)))) lt = by_feeds 4 [] (assign 4 _ refl refl refl) tt
counter_ready (suc (suc (suc (suc (suc zero))))) lt = pc_ready
counter_ready (suc (suc (suc (suc (suc (suc zero)))))) lt = one_ready
counter_ready (suc (suc (suc (suc (suc (suc (suc zero))))))) lt = by_feeds 7 (5 ∷ 6 ∷ []) (assign 1 _ refl refl refl) (pc_ready, (one_ready, tt))
counter_ready (suc (suc (suc (suc (suc (suc (suc (suc n)))))))) lt = absurd (omega arith)

module _ (m : ModuleText) (fin : IsFinished counter_draft m) (rules : IsModule m) where
  pub its_ports : m.ports ≡ ports_of counter_outside
  its_ports = fin.ports

  first : fin.place 0 ≡ 0
  first = fin.numbers 0 _ refl

  second : fin.place 1 ≡ 1
  second = fin.numbers 1 _ refl

  back : fin.back 1 ≡ 1
  back = ap fin.back (sym second) ∙ fin.returns 1 (omega arith)

  long : 1 < length (nets_of m)
  long = slice_get_within (nets_of m) 1 _ (ap (slice_get (nets_of m)) (sym second) ∙ fin.nets 1 (omega arith))

  looked : looked_in m fin.place fin.back counter_by.looks 1 ≡ 0 ∷ []
  looked = rw (lt-ltb 1 (length (nets_of m)) long, back) (ap (λ n. n ∷ []) first)

  pub looks : LooksByPorts counter_outside (looked_in m fin.place fin.back counter_by.looks)
  looks zero ports at = let e : [] ≡ ports = cc in subst (Each (Among (looked_in m fin.place fin.back counter_by.looks 0))) e tt
  looks (suc zero) ports at =
      let e : 0 ∷ [] ≡ ports = cc in
      subst (Each (Among (looked_in m fin.place fin.back counter_by.looks 1))) e (subst (λ l. Each (Among l) (0 ∷ [])) (sym looked) (inl refl, tt))
  looks (suc (suc zero)) ports at = let e : [] ≡ ports = cc in subst (Each (Among (looked_in m fin.place fin.back counter_by.looks 2))) e tt
  looks (suc (suc (suc n))) ports at = cc

  pub netlist : IsNetlist (m ∷ [])
  netlist = record { each = (rules, tt); distinct = (tt, tt); last = (fin.name, subst (Each (IsInstanceIn [])) (sym fin.instances) tt) }
