-- Images whose words stand far enough apart for the pipeline, also where a transfer is taken. Places are those of the code memory, in
-- which the first one follows the last.
use Rattle.std.specs.Prelude.{◌≡◌, ℕ, ◌+◌, ◌%◌, ◌^◌, ◌<◌, ◌≤◌, Bool, false, IsTrue, List, Contains, slice_index}
use Rattle.std.specs.List.{list_any}
use Rattle.std.specs.Option.{option_map_or}
use Rattle.ap_desc.specs.Designs.{is_named_nop}
use Rattle.ap_desc.specs.Ports.{is_transfer}
use Rattle.ap_desc.specs.declared.design.Design.{Design}
use Rattle.ap_desc.specs.declared.design.Instr.{Instr}
use Rattle.ap_desc.specs.declared.design.Micro.{Micro}
use Rattle.ap_image.specs.declared.image.Image.{Image}
use Rattle.ap_model.specs.Fire.{instr_of}
use Rattle.ap_dist.specs.Distances.{dist_of, out_of}

-- the code word at a place; a word that isn't given is 0
abbrev pub word_at : Design → Image → ℕ → ℕ
word_at design image place = slice_index image.code (place % 2 ^ design.address)

-- the word is a branch or a jump
abbrev pub is_transfer_word : Design → ℕ → Bool
is_transfer_word design word = option_map_or (λ (i : Instr). list_any (λ (m : Micro). is_transfer m.act) i.micros) (instr_of design word) false

-- the word is a NOP
abbrev pub is_nop_word : Design → ℕ → Bool
is_nop_word design word = option_map_or is_named_nop (instr_of design word) false

-- each word stands far enough from those before it; the slots of a transfer are no transfers; a landing begins with so many NOPs as
-- the drain says; and with these NOPs the words before a transfer and in its slots are far enough from any word at a landing
pub record IsSpaced (design : Design) (image : Image) (landings : List ℕ) (drain : ℕ) : Type 0 where
  pub apart : (place d : ℕ) → 1 ≤ d → d < design.stages → dist_of design (word_at design image place) (word_at design image (place + d)) ≤ d
  pub slots : (place j : ℕ) → IsTrue (is_transfer_word design (word_at design image place)) → 1 ≤ j → j ≤ design.slots → is_transfer_word design (word_at design image (place + j)) ≡ false
  pub drained : (landing j : ℕ) → Contains landings landing → j < drain → IsTrue (is_nop_word design (word_at design image (landing + j)))
  pub before : (place m : ℕ) → IsTrue (is_transfer_word design (word_at design image (place + m))) → m ≤ design.stages → out_of design (word_at design image place) ≤ design.branch + 1 + drain + m
  pub within : (place j : ℕ) → IsTrue (is_transfer_word design (word_at design image place)) → 1 ≤ j → j ≤ design.slots → out_of design (word_at design image (place + j)) + j ≤ design.branch + 1 + drain
