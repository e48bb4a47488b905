-- One more line of a module that is due there: its text comes after that of the lines before it, and the module keeps its rules.
use Rattle.std.proofs.Common.{◌≡◌, ◌≢◌, ℕ, ◌≤◌, ◌&&◌, nat_le, Bool, true, false, List, [], ◌∷◌, ◌++◌, refl, sym, ap, ◌∙◌, arith, append_assoc, append-nil}
use Rattle.std.specs.Prelude.{if◌then◌else◌, codes}
use Rattle.std.specs.List.{flat_map, AllByRecursion as Each}
use Rattle.std.proofs.lemmas.Bool.{and_parts, eqb-true, leb-true, true≢false}
use Rattle.std.proofs.lemmas.List.{length_push}
use Rattle.ap_net.specs.declared.net.Net.{Net}
use Rattle.ap_net.specs.declared.net.Port.{Port}
use Rattle.ap_net.specs.Text.{port_text, range_text, wire_line}
use Rattle.ap_vr.specs.declared.line.Line.{Line}
use Rattle.ap_vr.specs.declared.line.Line.TheVariants as line
use Rattle.ap_vr.specs.declared.line.NamedAssign.{NamedAssign}
use Rattle.ap_vr.specs.declared.line.NamedNext.{NamedNext}
use Rattle.ap_vr.specs.declared.line.NamedInstance.{NamedInstance}
use Rattle.ap_vr.specs.declared.module.NamedModule.{NamedModule}
use Rattle.ap_vr.specs.declared.place.Part.{Part}
use Rattle.ap_vr.specs.LineTexts.{IsLine, IsPort, IsDeclared, IsAssign, IsNext, IsInstance, line_text, port_line, register_line, named_assign_line, named_always_line, named_instance_line}
use Rattle.ap_vr.specs.Named.{grown, named_head, named_body}
use Rattle.ap_vr.specs.Places.{number, is_due, part_after}
use Rattle.ap_vr.proofs.Regroup.{in_four}
use Rattle.ap_vr.proofs.Fronts.{IsFront, body_front, body_grows, front_text, more_text, at_clock, at_reset, at_ports, at_close, at_body, body_of, wire_more, reg_more, assign_more, next_more, instance_more}

-- one more of what is the same for each
pub each_more : {X : Type 0} (P : X → Type 0) (xs : List X) (x : X) → Each P xs → P x → Each P (xs ++ x ∷ [])
each_more P [] x h g = (g, tt)
each_more P (y ∷ xs) x h g = (h.0, each_more P xs x h.1 g)

-- the numbers between which a part's is
pub between : (n low high : ℕ) → (nat_le low n && nat_le n high) ≡ true → (low ≤ n) × (n ≤ high)
between n low high h = let both = and_parts (nat_le low n) (nat_le n high) h in (leb-true low n both.0, leb-true n high both.1)

-- the head of a module whose ports don't stand there yet
bare_head : (name : List ℕ) → codes "module " ++ name ++ codes " (\n  input clk,\n  input rst" ++ codes ",\n" ≡ codes "module " ++ name ++ codes " (\n" ++ codes "  input clk,\n" ++ codes "  input rst,\n"
bare_head name = ap (λ t. codes "module " ++ t) (append_assoc name (codes " (\n  input clk,\n  input rst") (codes ",\n")
    ∙ sym (in_four name (codes " (\n") (codes "  input clk,\n") (codes "  input rst,\n")))

-- one more port
head_more : (m : NamedModule) (p : Port) (more : Bool) → named_head (grown m (line.Port p more)) ≡ named_head m ++ port_text p
head_more m p more = more_text port_text (codes "module " ++ m.name ++ codes " (\n  input clk,\n  input rst") m.ports p

abbrev port_end : Bool → List ℕ
port_end more = if more then codes ",\n" else codes "\n"

port_lead : (p : Port) (more : Bool) → port_text p ++ port_end more ≡ codes ",\n" ++ port_line p more
port_lead p more = by_case p.output (port_end more) where
  by_case : (output : Bool) (end : List ℕ) → (if output then codes ",\n  output " else codes ",\n  input ") ++ range_text p.width ++ codes " " ++ p.name ++ end ≡ codes ",\n" ++ ((if output then codes "  output " else codes "  input ") ++ range_text p.width ++ codes " " ++ p.name ++ end)
  by_case true end = refl
  by_case false end = refl

port_step : (m : NamedModule) (p : Port) (more : Bool) → front_text (part_after (line.Port p more)) (grown m (line.Port p more)) ≡ named_head m ++ codes ",\n" ++ line_text (line.Port p more)
port_step m p more =
    by_case more ∙ ap (λ t. t ++ port_end more) (head_more m p more) ∙ append_assoc (named_head m) (port_text p) (port_end more)
    ∙ ap (λ t. named_head m ++ t) (port_lead p more) ∙ sym (append_assoc (named_head m) (codes ",\n") (port_line p more)) where
      by_case : (b : Bool) → front_text (part_after (line.Port p b)) (grown m (line.Port p b)) ≡ named_head (grown m (line.Port p b)) ++ port_end b
      by_case true = refl
      by_case false = refl

-- the end of the ports, where nothing stands after them
close_step : (m : NamedModule) → m.wires ≡ [] → m.regs ≡ [] → m.assigns ≡ [] → m.nexts ≡ [] → m.instances ≡ [] → body_front m ≡ named_head m ++ codes "\n" ++ codes ");\n"
close_step m a b c d e =
    ap (λ t. named_head m ++ codes "\n);\n" ++ t) (none m.wires m.regs m.assigns m.nexts m.instances a b c d e)
    ∙ append-nil (named_head m ++ codes "\n);\n") ∙ sym (append_assoc (named_head m) (codes "\n") (codes ");\n")) where
      none : (ws rs : List Net) (ds : List NamedAssign) (xs : List NamedNext) (is : List NamedInstance) → ws ≡ [] → rs ≡ [] → ds ≡ [] → xs ≡ [] → is ≡ [] → body_of ws rs ds xs is ≡ []
      none ws rs ds xs is a b c d e = rw (a, b, c, d, e) refl

-- one more line of the body, where nothing of a later kind stands there
wire_step : (ws rs : List Net) (ds : List NamedAssign) (xs : List NamedNext) (is : List NamedInstance) (n : Net) → rs ≡ [] → ds ≡ [] → xs ≡ [] → is ≡ [] → body_of (ws ++ n ∷ []) rs ds xs is ≡ body_of ws rs ds xs is ++ wire_line n
wire_step ws rs ds xs is n b c d e = rw (b, c, d, e) (wire_more ws n)

reg_step : (ws rs : List Net) (ds : List NamedAssign) (xs : List NamedNext) (is : List NamedInstance) (n : Net) → ds ≡ [] → xs ≡ [] → is ≡ [] → body_of ws (rs ++ n ∷ []) ds xs is ≡ body_of ws rs ds xs is ++ register_line n
reg_step ws rs ds xs is n c d e = rw (c, d, e) (reg_more ws rs n)

assign_step : (ws rs : List Net) (ds : List NamedAssign) (xs : List NamedNext) (is : List NamedInstance) (a : NamedAssign) → xs ≡ [] → is ≡ [] → body_of ws rs (ds ++ a ∷ []) xs is ≡ body_of ws rs ds xs is ++ named_assign_line a
assign_step ws rs ds xs is a d e = rw (d, e) (assign_more ws rs ds a)

next_step : (ws rs : List Net) (ds : List NamedAssign) (xs : List NamedNext) (is : List NamedInstance) (x : NamedNext) → is ≡ [] → body_of ws rs ds (xs ++ x ∷ []) is ≡ body_of ws rs ds xs is ++ named_always_line x
next_step ws rs ds xs is x e = rw e (next_more ws rs ds xs x)

-- the text of one more line
pub text_step : (at : Part) (top : Bool) (m : NamedModule) (x : Line) → IsFront at top m → number at ≢ 0 → is_due at top x ≡ true → front_text (part_after x) (grown m x) ≡ front_text at m ++ line_text x
text_step at top m (line.Module name) front inside due = absurd (inside (eqb-true (number at) 0 due))
text_step at top m line.Clock front inside due = ap (λ t. t ++ codes "  input clk,\n") (sym (at_clock at m (eqb-true (number at) 1 due)))
text_step at top m line.Reset front inside due =
    let n = eqb-true (number at) 2 due in
    let none = front.no_ports (omega (arith, n)) (omega (arith, n)) in
    ap (λ ports. codes "module " ++ m.name ++ codes " (\n  input clk,\n  input rst" ++ flat_map port_text ports ++ codes ",\n") none
    ∙ ap (λ t. t ++ codes ",\n") (append-nil (codes "module " ++ m.name ++ codes " (\n  input clk,\n  input rst"))
    ∙ bare_head m.name ∙ ap (λ t. t ++ codes "  input rst,\n") (sym (at_reset at m n))
text_step at top m (line.Port p more) front inside due =
    port_step m p more ∙ ap (λ t. t ++ port_line p more) (sym (at_ports at m (eqb-true (number at) 3 due)))
text_step at top m line.Close front inside due =
    let n = eqb-true (number at) 4 due in
    close_step m (front.no_wires (omega (arith, n)) (omega (arith, n))) (front.no_regs (omega (arith, n)) (omega (arith, n))) (front.no_assigns (omega (arith, n)) (omega (arith, n))) (front.no_nexts (omega (arith, n)) (omega (arith, n))) (front.no_instances (omega (arith, n)) (omega (arith, n)))
    ∙ ap (λ t. t ++ codes ");\n") (sym (at_close at m n))
text_step at top m (line.Wire n) front inside due =
    let k = eqb-true (number at) 5 due in
    body_grows (named_head m) (named_body m) (named_body (grown m (line.Wire n))) (wire_line n)
    (wire_step m.wires m.regs m.assigns m.nexts m.instances n (front.no_regs (omega (arith, k)) (omega (arith, k))) (front.no_assigns (omega (arith, k)) (omega (arith, k))) (front.no_nexts (omega (arith, k)) (omega (arith, k))) (front.no_instances (omega (arith, k)) (omega (arith, k))))
    ∙ ap (λ t. t ++ wire_line n) (sym (at_body at m (omega (arith, k))))
text_step at top m (line.Reg n) front inside due =
    let k = between (number at) 5 6 due in
    body_grows (named_head m) (named_body m) (named_body (grown m (line.Reg n))) (register_line n)
    (reg_step m.wires m.regs m.assigns m.nexts m.instances n (front.no_assigns (omega (arith, k.0)) (omega (arith, k.1))) (front.no_nexts (omega (arith, k.0)) (omega (arith, k.1))) (front.no_instances (omega (arith, k.0)) (omega (arith, k.1))))
    ∙ ap (λ t. t ++ register_line n) (sym (at_body at m k.0))
text_step at top m (line.Assign a) front inside due =
    let k = between (number at) 5 7 due in
    body_grows (named_head m) (named_body m) (named_body (grown m (line.Assign a))) (named_assign_line a)
    (assign_step m.wires m.regs m.assigns m.nexts m.instances a (front.no_nexts (omega (arith, k.0)) (omega (arith, k.1))) (front.no_instances (omega (arith, k.0)) (omega (arith, k.1))))
    ∙ ap (λ t. t ++ named_assign_line a) (sym (at_body at m k.0))
text_step at top m (line.Always x) front inside due =
    let k = between (number at) 5 8 due in
    body_grows (named_head m) (named_body m) (named_body (grown m (line.Always x))) (named_always_line x)
    (next_step m.wires m.regs m.assigns m.nexts m.instances x (front.no_instances (omega (arith, k.0)) (omega (arith, k.1))))
    ∙ ap (λ t. t ++ named_always_line x) (sym (at_body at m k.0))
text_step at top m (line.Instance i) front inside due =
    let k = leb-true 5 (number at) (and_parts (nat_le 5 (number at)) top due).0 in
    body_grows (named_head m) (named_body m) (named_body (grown m (line.Instance i))) (named_instance_line i)
    (instance_more m.wires m.regs m.assigns m.nexts m.instances i)
    ∙ ap (λ t. t ++ named_instance_line i) (sym (at_body at m k))
text_step at top m line.End front inside due = ap (λ t. t ++ codes "endmodule\n") (sym (at_body at m (leb-true 5 (number at) due)))

-- what the module keeps
pub front_step : (at : Part) (top : Bool) (m : NamedModule) (x : Line) → IsFront at top m → number at ≢ 0 → is_due at top x ≡ true → IsLine x → IsFront (part_after x) top (grown m x)
front_step at top m (line.Module name) front inside due rules = absurd (inside (eqb-true (number at) 0 due))
front_step at top m line.Clock front inside due rules =
    let k = eqb-true (number at) 1 due in
    record {
      name = front.name;
      is_top = front.is_top;
      no_ports = λ h g. front.no_ports (omega (arith, k)) (omega (arith, k));
      no_wires = λ h g. front.no_wires (omega (arith, k)) (omega (arith, k));
      no_regs = λ h g. front.no_regs (omega (arith, k)) (omega (arith, k));
      no_assigns = λ h g. front.no_assigns (omega (arith, k)) (omega (arith, k));
      no_nexts = λ h g. front.no_nexts (omega (arith, k)) (omega (arith, k));
      no_instances = λ h g. front.no_instances (omega (arith, k)) (omega (arith, k));
      some = (λ h. absurd (omega (arith, h)), λ h. absurd (omega (arith, h)));
      ports = front.ports;
      wires = front.wires;
      regs = front.regs;
      assigns = front.assigns;
      nexts = front.nexts;
      instances = front.instances;
      alone = front.alone;
    }
front_step at top m line.Reset front inside due rules =
    let k = eqb-true (number at) 2 due in
    record {
      name = front.name;
      is_top = front.is_top;
      no_ports = λ h g. absurd (omega (arith, g));
      no_wires = λ h g. front.no_wires (omega (arith, k)) (omega (arith, k));
      no_regs = λ h g. front.no_regs (omega (arith, k)) (omega (arith, k));
      no_assigns = λ h g. front.no_assigns (omega (arith, k)) (omega (arith, k));
      no_nexts = λ h g. front.no_nexts (omega (arith, k)) (omega (arith, k));
      no_instances = λ h g. front.no_instances (omega (arith, k)) (omega (arith, k));
      some = (λ h. absurd (omega (arith, h)), λ h. absurd (omega (arith, h)));
      ports = front.ports;
      wires = front.wires;
      regs = front.regs;
      assigns = front.assigns;
      nexts = front.nexts;
      instances = front.instances;
      alone = front.alone;
    }
front_step at top m (line.Port p true) front inside due rules =
    let k = eqb-true (number at) 3 due in
    record {
      name = front.name;
      is_top = front.is_top;
      no_ports = λ h g. absurd (omega (arith, g));
      no_wires = λ h g. front.no_wires (omega (arith, k)) (omega (arith, k));
      no_regs = λ h g. front.no_regs (omega (arith, k)) (omega (arith, k));
      no_assigns = λ h g. front.no_assigns (omega (arith, k)) (omega (arith, k));
      no_nexts = λ h g. front.no_nexts (omega (arith, k)) (omega (arith, k));
      no_instances = λ h g. front.no_instances (omega (arith, k)) (omega (arith, k));
      some = (λ h. rw (length_push m.ports p) (omega arith), λ h. rw (length_push m.ports p) (omega arith));
      ports = each_more IsPort m.ports p front.ports rules;
      wires = front.wires;
      regs = front.regs;
      assigns = front.assigns;
      nexts = front.nexts;
      instances = front.instances;
      alone = front.alone;
    }
front_step at top m (line.Port p false) front inside due rules =
    let k = eqb-true (number at) 3 due in
    record {
      name = front.name;
      is_top = front.is_top;
      no_ports = λ h g. absurd (omega (arith, g));
      no_wires = λ h g. front.no_wires (omega (arith, k)) (omega (arith, k));
      no_regs = λ h g. front.no_regs (omega (arith, k)) (omega (arith, k));
      no_assigns = λ h g. front.no_assigns (omega (arith, k)) (omega (arith, k));
      no_nexts = λ h g. front.no_nexts (omega (arith, k)) (omega (arith, k));
      no_instances = λ h g. front.no_instances (omega (arith, k)) (omega (arith, k));
      some = (λ h. rw (length_push m.ports p) (omega arith), λ h. rw (length_push m.ports p) (omega arith));
      ports = each_more IsPort m.ports p front.ports rules;
      wires = front.wires;
      regs = front.regs;
      assigns = front.assigns;
      nexts = front.nexts;
      instances = front.instances;
      alone = front.alone;
    }
front_step at top m line.Close front inside due rules =
    let k = eqb-true (number at) 4 due in
    record {
      name = front.name;
      is_top = front.is_top;
      no_ports = λ h g. absurd (omega (arith, g));
      no_wires = λ h g. absurd (omega (arith, g));
      no_regs = λ h g. front.no_regs (omega (arith, k)) (omega (arith, k));
      no_assigns = λ h g. front.no_assigns (omega (arith, k)) (omega (arith, k));
      no_nexts = λ h g. front.no_nexts (omega (arith, k)) (omega (arith, k));
      no_instances = λ h g. front.no_instances (omega (arith, k)) (omega (arith, k));
      some = (λ h. absurd (omega (arith, h)), λ h. front.some.1 (omega (arith, k)));
      ports = front.ports;
      wires = front.wires;
      regs = front.regs;
      assigns = front.assigns;
      nexts = front.nexts;
      instances = front.instances;
      alone = front.alone;
    }
front_step at top m (line.Wire n) front inside due rules =
    let k = eqb-true (number at) 5 due in
    record {
      name = front.name;
      is_top = front.is_top;
      no_ports = λ h g. absurd (omega (arith, g));
      no_wires = λ h g. absurd (omega (arith, g));
      no_regs = λ h g. front.no_regs (omega (arith, k)) (omega (arith, k));
      no_assigns = λ h g. front.no_assigns (omega (arith, k)) (omega (arith, k));
      no_nexts = λ h g. front.no_nexts (omega (arith, k)) (omega (arith, k));
      no_instances = λ h g. front.no_instances (omega (arith, k)) (omega (arith, k));
      some = (λ h. absurd (omega (arith, h)), λ h. front.some.1 (omega (arith, k)));
      ports = front.ports;
      wires = each_more IsDeclared m.wires n front.wires rules;
      regs = front.regs;
      assigns = front.assigns;
      nexts = front.nexts;
      instances = front.instances;
      alone = front.alone;
    }
front_step at top m (line.Reg n) front inside due rules =
    let k = between (number at) 5 6 due in
    record {
      name = front.name;
      is_top = front.is_top;
      no_ports = λ h g. absurd (omega (arith, g));
      no_wires = λ h g. absurd (omega (arith, g));
      no_regs = λ h g. absurd (omega (arith, g));
      no_assigns = λ h g. front.no_assigns (omega (arith, k.0)) (omega (arith, k.1));
      no_nexts = λ h g. front.no_nexts (omega (arith, k.0)) (omega (arith, k.1));
      no_instances = λ h g. front.no_instances (omega (arith, k.0)) (omega (arith, k.1));
      some = (λ h. absurd (omega (arith, h)), λ h. front.some.1 (omega (arith, k.0)));
      ports = front.ports;
      wires = front.wires;
      regs = each_more IsDeclared m.regs n front.regs rules;
      assigns = front.assigns;
      nexts = front.nexts;
      instances = front.instances;
      alone = front.alone;
    }
front_step at top m (line.Assign a) front inside due rules =
    let k = between (number at) 5 7 due in
    record {
      name = front.name;
      is_top = front.is_top;
      no_ports = λ h g. absurd (omega (arith, g));
      no_wires = λ h g. absurd (omega (arith, g));
      no_regs = λ h g. absurd (omega (arith, g));
      no_assigns = λ h g. absurd (omega (arith, g));
      no_nexts = λ h g. front.no_nexts (omega (arith, k.0)) (omega (arith, k.1));
      no_instances = λ h g. front.no_instances (omega (arith, k.0)) (omega (arith, k.1));
      some = (λ h. absurd (omega (arith, h)), λ h. front.some.1 (omega (arith, k.0)));
      ports = front.ports;
      wires = front.wires;
      regs = front.regs;
      assigns = each_more IsAssign m.assigns a front.assigns rules;
      nexts = front.nexts;
      instances = front.instances;
      alone = front.alone;
    }
front_step at top m (line.Always x) front inside due rules =
    let k = between (number at) 5 8 due in
    record {
      name = front.name;
      is_top = front.is_top;
      no_ports = λ h g. absurd (omega (arith, g));
      no_wires = λ h g. absurd (omega (arith, g));
      no_regs = λ h g. absurd (omega (arith, g));
      no_assigns = λ h g. absurd (omega (arith, g));
      no_nexts = λ h g. absurd (omega (arith, g));
      no_instances = λ h g. front.no_instances (omega (arith, k.0)) (omega (arith, k.1));
      some = (λ h. absurd (omega (arith, h)), λ h. front.some.1 (omega (arith, k.0)));
      ports = front.ports;
      wires = front.wires;
      regs = front.regs;
      assigns = front.assigns;
      nexts = each_more IsNext m.nexts x front.nexts rules;
      instances = front.instances;
      alone = front.alone;
    }
front_step at top m (line.Instance i) front inside due rules =
    let k = leb-true 5 (number at) (and_parts (nat_le 5 (number at)) top due).0 in
    record {
      name = front.name;
      is_top = front.is_top;
      no_ports = λ h g. absurd (omega (arith, g));
      no_wires = λ h g. absurd (omega (arith, g));
      no_regs = λ h g. absurd (omega (arith, g));
      no_assigns = λ h g. absurd (omega (arith, g));
      no_nexts = λ h g. absurd (omega (arith, g));
      no_instances = λ h g. absurd (omega (arith, g));
      some = (λ h. absurd (omega (arith, h)), λ h. front.some.1 (omega (arith, k)));
      ports = front.ports;
      wires = front.wires;
      regs = front.regs;
      assigns = front.assigns;
      nexts = front.nexts;
      instances = each_more IsInstance m.instances i front.instances rules;
      alone = λ h. absurd (true≢false (sym (and_parts (nat_le 5 (number at)) top due).1 ∙ h));
    }
front_step at top m line.End front inside due rules =
    let k = leb-true 5 (number at) due in
    record {
      name = front.name;
      is_top = front.is_top;
      no_ports = λ h g. absurd (omega (arith, h));
      no_wires = λ h g. absurd (omega (arith, h));
      no_regs = λ h g. absurd (omega (arith, h));
      no_assigns = λ h g. absurd (omega (arith, h));
      no_nexts = λ h g. absurd (omega (arith, h));
      no_instances = λ h g. absurd (omega (arith, h));
      some = (λ h. front.some.1 (omega (arith, k)), λ h. front.some.1 (omega (arith, k)));
      ports = front.ports;
      wires = front.wires;
      regs = front.regs;
      assigns = front.assigns;
      nexts = front.nexts;
      instances = front.instances;
      alone = front.alone;
    }
