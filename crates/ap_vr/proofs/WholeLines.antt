-- Each line ends with its only line feed, so a text of lines has these lines.
use Rattle.std.proofs.Common.{◌≡◌, ℕ, ◌-◌, ◌<◌, ◌^◌, ◌==◌, not, Bool, true, false, cond, List, [], ◌∷◌, ◌++◌, map, refl, sym, ap, ◌∙◌, append_assoc}
use Rattle.std.specs.List.{AllByRecursion as Each, flat_map, list_all}
use Rattle.std.specs.Prelude.{codes, if◌then◌else◌}
use Rattle.std.specs.Fmt.{decimal}
use Rattle.std.proofs.lemmas.Bool.{and_from, and_parts, eqb-true}
use Rattle.std.proofs.lemmas.List.Folds.{list_all-append}
use Rattle.ap_net.specs.declared.cell.TwoOp.{TwoOp}
use Rattle.ap_net.specs.declared.cell.TwoOp.TheVariants as op
use Rattle.ap_net.specs.declared.net.Port.{Port}
use Rattle.ap_net.specs.Names.{IsNetName, is_name_byte}
use Rattle.ap_net.specs.Text.{clocked_text, constant_text, range_text, sign, taken_text}
use Rattle.ap_vr.specs.declared.line.Connection.{Connection}
use Rattle.ap_vr.specs.declared.line.Line.{Line}
use Rattle.ap_vr.specs.declared.line.Line.TheVariants as line
use Rattle.ap_vr.specs.declared.line.NamedNext.{NamedNext}
use Rattle.ap_vr.specs.declared.line.Right.{Right}
use Rattle.ap_vr.specs.declared.line.Right.TheVariants as right
use Rattle.ap_vr.specs.LineTexts.{IsConnection, IsLine, IsRight, IsWidth, joined_text, line_text, named_always_line, right_text}
use Rattle.ap_vr.specs.TextLines.{led_by, text_lines}
use Rattle.ap_vr.proofs.Words.{high_small, name_word, number_word, width_small}

-- no byte is a line feed
abbrev no_feed : List ℕ → Type 0
no_feed bytes = list_all (λ b. not (b == 10)) bytes ≡ true

both : (xs ys : List ℕ) → no_feed xs → no_feed ys → no_feed (xs ++ ys)
both xs ys p q = list_all-append (λ b. not (b == 10)) xs ys ∙ and_from (list_all (λ b. not (b == 10)) xs) (list_all (λ b. not (b == 10)) ys) p q

name_byte : (b : ℕ) → is_name_byte b ≡ true → not (b == 10) ≡ true
name_byte b h = go (b == 10) refl where
  go : (c : Bool) → (b == 10) ≡ c → not (b == 10) ≡ true
  go true e = let no : is_name_byte 10 ≡ true = sym (ap is_name_byte (eqb-true b 10 e)) ∙ h in let clash : false ≡ true = no in cc
  go false e = ap not e

word_bytes : (bytes : List ℕ) → list_all is_name_byte bytes ≡ true → no_feed bytes
word_bytes [] h = refl
word_bytes (b ∷ bytes) h =
    let two = and_parts (is_name_byte b) (list_all is_name_byte bytes) h in
    and_from (not (b == 10)) (list_all (λ c. not (c == 10)) bytes) (name_byte b two.0) (word_bytes bytes two.1)

in_name : (name : List ℕ) → IsNetName name → no_feed name
in_name name h = word_bytes name (name_word name h).all

in_number : (n : ℕ) → n < 2 ^ 64 → no_feed (decimal n)
in_number n h = word_bytes (decimal n) (number_word n h).all

in_range : (width : ℕ) → IsWidth width → no_feed (range_text width)
in_range width h = both (codes "[" ++ decimal (width - 1)) (codes ":0]") (both (codes "[") (decimal (width - 1)) refl (in_number (width - 1) (high_small width h))) refl

in_constant : (width value : ℕ) → IsWidth width → value < 2 ^ 64 → no_feed (constant_text width value)
in_constant width value h small = both (decimal width ++ codes "'d") (decimal value) (both (decimal width) (codes "'d") (in_number width (width_small width h)) refl) (in_number value small)

in_sign : (o : TwoOp) → no_feed (sign o)
in_sign op.Add = refl
in_sign op.Sub = refl
in_sign op.And = refl
in_sign op.Or = refl
in_sign op.Xor = refl
in_sign op.Eq = refl
in_sign op.Ltu = refl

in_right : (r : Right) → IsRight r → no_feed (right_text r)
in_right (right.Const width value) is = in_constant width value is.0 is.1
in_right (right.Copy a) is = in_name a is.0
in_right (right.Not a) is = both (codes "~") a refl (in_name a is.0)
in_right (right.Two o a b) is = both (a ++ sign o) b (both a (sign o) (in_name a is.0.0) (in_sign o)) (in_name b is.1.0)
in_right (right.Choose s a b) is =
    both (s ++ codes " ? " ++ a ++ codes " : ") b (both (s ++ codes " ? " ++ a) (codes " : ") (both (s ++ codes " ? ") a (both s (codes " ? ") (in_name s is.0.0) refl) (in_name a is.1.0)) refl) (in_name b is.2.0)
in_right (right.Cat a b) is =
    both (codes "{" ++ a ++ codes ", " ++ b) (codes "}") (both (codes "{" ++ a ++ codes ", ") b (both (codes "{" ++ a) (codes ", ") (both (codes "{") a refl (in_name a is.0.0)) refl) (in_name b is.1.0)) refl
in_right (right.Slice a h l) is =
    both (a ++ codes "[" ++ decimal h ++ codes ":" ++ decimal l) (codes "]")
    (both (a ++ codes "[" ++ decimal h ++ codes ":") (decimal l) (both (a ++ codes "[" ++ decimal h) (codes ":") (both (a ++ codes "[") (decimal h) (both a (codes "[") (in_name a is.0.0) refl) (in_number h is.1)) refl) (in_number l is.2)) refl

in_taken : (register value : List ℕ) → no_feed register → no_feed value → no_feed (taken_text register value)
in_taken register value p q = both (register ++ codes " <= " ++ value) (codes ";") (both (register ++ codes " <= ") value (both register (codes " <= ") p refl) q) refl

in_joined : (connections : List Connection) → Each IsConnection connections → no_feed (flat_map joined_text connections)
in_joined [] h = refl
in_joined (c ∷ connections) h =
    both (joined_text c) (flat_map joined_text connections)
    (both (codes ", ." ++ c.port ++ codes "(" ++ c.net) (codes ")") (both (codes ", ." ++ c.port ++ codes "(") c.net (both (codes ", ." ++ c.port) (codes "(") (both (codes ", .") c.port refl (in_name c.port h.0.0)) refl) (in_name c.net h.0.1.0)) refl)
    (in_joined connections h.1)

-- the line is bytes without a line feed, and one
record IsWhole (x : Line) : Type 0 where
  body : List ℕ
  ends : line_text x ≡ body ++ 10 ∷ []
  clean : no_feed body

direction : (output : Bool) → no_feed (if output then codes "  output " else codes "  input ")
direction true = refl
direction false = refl

-- what ends a line after some text
ended : (x : Line) (text last body_end : List ℕ) → line_text x ≡ text ++ last → last ≡ body_end ++ 10 ∷ [] → no_feed text → no_feed body_end → IsWhole x
ended x text last body_end e l p q = record { body = text ++ body_end; ends = e ∙ ap (λ t. text ++ t) l ∙ sym (append_assoc text body_end (10 ∷ [])); clean = both text body_end p q }

port_whole : (p : Port) (more : Bool) → IsLine (line.Port p more) → IsWhole (line.Port p more)
port_whole p more is = go more where
  front : List ℕ
  front = (if p.output then codes "  output " else codes "  input ") ++ range_text p.width ++ codes " " ++ p.name

  clean : no_feed ((if p.output then codes "  output " else codes "  input ") ++ range_text p.width ++ codes " " ++ p.name)
  clean =
      both ((if p.output then codes "  output " else codes "  input ") ++ range_text p.width ++ codes " ") p.name
      (both ((if p.output then codes "  output " else codes "  input ") ++ range_text p.width) (codes " ") (both (if p.output then codes "  output " else codes "  input ") (range_text p.width) (direction p.output) (in_range p.width is.1)) refl) (in_name p.name is.0)

  go : (more : Bool) → IsWhole (line.Port p more)
  go true = ended (line.Port p true) ((if p.output then codes "  output " else codes "  input ") ++ range_text p.width ++ codes " " ++ p.name) (codes ",\n") (codes ",") refl refl clean refl
  go false = ended (line.Port p false) ((if p.output then codes "  output " else codes "  input ") ++ range_text p.width ++ codes " " ++ p.name) (codes "\n") [] refl refl clean refl

always_ends : (x : NamedNext) → named_always_line x ≡ (codes "  always @(posedge clk) if (rst) " ++ taken_text x.register (constant_text x.width x.reset) ++ codes " else " ++ taken_text x.register x.from) ++ codes "\n"
unfolding clocked_text
always_ends x = refl

whole : (x : Line) → IsLine x → IsWhole x
whole (line.Module name) is = ended (line.Module name) (codes "module " ++ name) (codes " (\n") (codes " (") refl refl (both (codes "module ") name refl (in_name name is)) refl
whole line.Clock is = record { body = codes "  input clk,"; ends = refl; clean = refl }
whole line.Reset is = record { body = codes "  input rst,"; ends = refl; clean = refl }
whole (line.Port p more) is = port_whole p more is
whole line.Close is = record { body = codes ");"; ends = refl; clean = refl }
whole (line.Wire n) is =
    ended (line.Wire n) (codes "  wire " ++ range_text n.width ++ codes " " ++ n.name) (codes ";\n") (codes ";") refl refl
    (both (codes "  wire " ++ range_text n.width ++ codes " ") n.name (both (codes "  wire " ++ range_text n.width) (codes " ") (both (codes "  wire ") (range_text n.width) refl (in_range n.width is.1)) refl) (in_name n.name is.0)) refl
whole (line.Reg n) is =
    ended (line.Reg n) (codes "  reg " ++ range_text n.width ++ codes " " ++ n.name) (codes ";\n") (codes ";") refl refl
    (both (codes "  reg " ++ range_text n.width ++ codes " ") n.name (both (codes "  reg " ++ range_text n.width) (codes " ") (both (codes "  reg ") (range_text n.width) refl (in_range n.width is.1)) refl) (in_name n.name is.0)) refl
whole (line.Assign a) is =
    ended (line.Assign a) (codes "  assign " ++ a.to ++ codes " = " ++ right_text a.right) (codes ";\n") (codes ";") refl refl
    (both (codes "  assign " ++ a.to ++ codes " = ") (right_text a.right) (both (codes "  assign " ++ a.to) (codes " = ") (both (codes "  assign ") a.to refl (in_name a.to is.0)) refl) (in_right a.right is.1)) refl
whole (line.Always x) is =
    ended (line.Always x) (codes "  always @(posedge clk) if (rst) " ++ taken_text x.register (constant_text x.width x.reset) ++ codes " else " ++ taken_text x.register x.from) (codes "\n") [] (always_ends x) refl
    (both (codes "  always @(posedge clk) if (rst) " ++ taken_text x.register (constant_text x.width x.reset) ++ codes " else ") (taken_text x.register x.from)
    (both (codes "  always @(posedge clk) if (rst) " ++ taken_text x.register (constant_text x.width x.reset)) (codes " else ")
    (both (codes "  always @(posedge clk) if (rst) ") (taken_text x.register (constant_text x.width x.reset)) refl (in_taken x.register (constant_text x.width x.reset) (in_name x.register is.0) (in_constant x.width x.reset is.1 is.2))) refl)
    (in_taken x.register x.from (in_name x.register is.0) (in_name x.from is.3.0))) refl
whole (line.Instance i) is =
    ended (line.Instance i) (codes "  " ++ i.module ++ codes " " ++ i.name ++ codes " (.clk(clk), .rst(rst)" ++ flat_map joined_text i.connections) (codes ");\n") (codes ");") refl refl
    (both (codes "  " ++ i.module ++ codes " " ++ i.name ++ codes " (.clk(clk), .rst(rst)") (flat_map joined_text i.connections)
    (both (codes "  " ++ i.module ++ codes " " ++ i.name) (codes " (.clk(clk), .rst(rst)")
    (both (codes "  " ++ i.module ++ codes " ") i.name (both (codes "  " ++ i.module) (codes " ") (both (codes "  ") i.module refl (in_name i.module is.1)) refl) (in_name i.name is.0)) refl) (in_joined i.connections is.2)) refl
whole line.End is = record { body = codes "endmodule"; ends = refl; clean = refl }

-- the first line of a text is the one that stands there
line_first : (body rest : List ℕ) → no_feed body → text_lines (body ++ 10 ∷ rest) ≡ (body ++ 10 ∷ []) ∷ text_lines rest
line_first [] rest h = refl
line_first (b ∷ body) rest h =
    let two = and_parts (not (b == 10)) (list_all (λ c. not (c == 10)) body) h in
    ap (λ c. cond c ((b ∷ []) ∷ text_lines (body ++ 10 ∷ rest)) (led_by b (text_lines (body ++ 10 ∷ rest)))) (no_ten two.0)
    ∙ ap (led_by b) (line_first body rest two.1)
  where
    no_ten : not (b == 10) ≡ true → (b == 10) ≡ false
    no_ten e = turned (b == 10) e where
      turned : (c : Bool) → not c ≡ true → c ≡ false
      turned true f = cc
      turned false f = refl

line_then : (x : Line) (rest : List ℕ) → IsLine x → text_lines (line_text x ++ rest) ≡ line_text x ∷ text_lines rest
line_then x rest is =
    let w = whole x is in
    ap (λ t. text_lines (t ++ rest)) w.ends ∙ ap text_lines (append_assoc w.body (10 ∷ []) rest) ∙ line_first w.body rest w.clean ∙ ap (λ t. t ∷ text_lines rest) (sym w.ends)

-- a text of lines has these lines
pub lines_of_text : (xs : List Line) → Each IsLine xs → text_lines (flat_map line_text xs) ≡ map line_text xs
lines_of_text [] h = refl
lines_of_text (x ∷ xs) h = line_then x (flat_map line_text xs) h.0 ∙ ap (λ l. line_text x ∷ l) (lines_of_text xs h.1)
