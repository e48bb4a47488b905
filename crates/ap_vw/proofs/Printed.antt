-- What is left of the lines of a netlist before and after one of them.
use Rattle.std.proofs.Common.{◌≡◌, ℕ, ◌<◌, ◌-◌, true, false, List, [], ◌∷◌, ◌++◌, length, get_or, take, drop, refl, sym, subst, ◌∙◌, arith, true≢false}
use Rattle.std.specs.Prelude.{codes}
use Rattle.ap_net.specs.Modules.{ModuleText, IsNetlist, earlier}
use Rattle.std.proofs.Math.Seq.{take-length}
use Rattle.ap_net.proofs.Netlists.{instances_within, take-earlier}
use Rattle.ap_vw.specs.declared.left.Due.{Due}
use Rattle.ap_vw.specs.declared.left.Due.TheVariants as due
use Rattle.ap_vw.specs.declared.left.Left.{Left}
use Rattle.ap_vw.specs.LeftLines.{AppendsFirst, AppendsNext, lines_by, lines_left, body_left, ports_left, rest_of}
use Rattle.ap_vw.specs.NetLines.{lines_of, module_lines, netlist_lines, port_lines}
use Rattle.ap_vw.specs.Printing.{AreInstancesIn, Prints, printed_later}

-- lines with one more among them are some
ends_in : (xs : List (List ℕ)) (line : List ℕ) (ys : List (List ℕ)) → xs ++ line ∷ ys ≡ [] → ⊥
ends_in [] line ys h = cc
ends_in (x ∷ xs) line ys h = cc

some_body : (l : Left) → body_left l ≡ [] → ⊥
some_body l h = ends_in _ (codes "endmodule\n") [] h

some_ports : (l : Left) → ports_left l ≡ [] → ⊥
some_ports l h = ends_in (port_lines l.ports.now) (codes ");\n") (body_left l) h

-- no line is left only where none is due
pub none_due : (d : Due) (l : Left) → lines_by d l ≡ [] → d ≡ due.Nothing
none_due due.Module l h = cc
none_due due.Clock l h = cc
none_due due.Reset l h = cc
none_due due.Ports l h = absurd (some_ports l h)
none_due due.Body l h = absurd (some_body l h)
none_due due.Nothing l h = refl

-- the next line was appended
pub prints_next : (left more : List (List ℕ)) (before after : List ℕ) → AppendsNext left before after true → Prints (left ++ more) (rest_of left ++ more) before after true
prints_next [] more before after h = absurd (true≢false h.0)
prints_next (line ∷ lines) more before after h = (refl, refl, h.1)

-- all lines were given
pub prints_end : (left more : List (List ℕ)) (before after : List ℕ) → AppendsNext left before after false → (left ≡ [] → more ≡ []) → Prints (left ++ more) (left ++ more) before after false
prints_end [] more before after h ended = rw (ended refl) (refl, refl, h.1)
prints_end (line ∷ lines) more before after h ended = absurd (true≢false (sym h.0))

-- a netlist has a module
pub some_modules : (ms : List ModuleText) → IsNetlist ms → 0 < length ms
some_modules [] h = absurd h.last
some_modules (m ∷ ms) h = omega arith

pub instances_in : (ms : List ModuleText) → IsNetlist ms → AreInstancesIn (earlier ms) ms
instances_in ms h = instances_within (earlier ms) ms h.each h.distinct h.last

-- all but the first module are those after it
drop_first : (ms : List ModuleText) → take (length ms - 1) (drop 1 ms) ≡ drop 1 ms
drop_first [] = refl
drop_first (m ∷ ms) = let e : length (m ∷ ms) - 1 ≡ length ms = omega arith in rw e (take-length ms)

pub rest_in : (ms within : List ModuleText) → IsNetlist ms → within ≡ take (length ms - 1) ms → AreInstancesIn within (take (length ms - 1) (drop 1 ms))
rest_in [] within h e = absurd h.last
rest_in (m ∷ ms) within h e =
    subst (λ (l : List ModuleText). AreInstancesIn l (take (length (m ∷ ms) - 1) (drop 1 (m ∷ ms)))) (sym (e ∙ take-earlier (m ∷ ms)))
    (subst (λ (l : List ModuleText). AreInstancesIn (earlier (m ∷ ms)) l) (sym (drop_first (m ∷ ms))) (instances_in (m ∷ ms) h).1)

-- the lines of the first module and of those after it
pub begun_lines : (ms : List ModuleText) (m : ModuleText) (l : Left) → IsNetlist ms → m ≡ get_or ms 0 m → l.earlier.now ≡ take (length ms - 1) ms → lines_left l ≡ module_lines (take (length ms - 1) ms) m
    → printed_later l (take (length ms - 1) (drop 1 ms)) ≡ netlist_lines ms
begun_lines [] m l h is e lines = absurd h.last
begun_lines (x ∷ ms) m l h is e lines =
    (λ i. lines i ++ lines_of (e i) (drop_first (x ∷ ms) i))
    ∙ (λ i. module_lines (take-earlier (x ∷ ms) i) (is i) ++ lines_of (take-earlier (x ∷ ms) i) ms)

-- the line that is due is the next one
pub next_due : (lines : List (List ℕ)) (before after : List ℕ) → AppendsFirst lines before after → AppendsNext lines before after true
next_due [] before after h = absurd h
next_due (line ∷ lines) before after h = (refl, h)
