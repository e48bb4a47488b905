-- A program at its places, by the definitions of places and of least starts.
use Rattle.std.proofs.Common.{◌≡◌, ℕ, suc, ◌+◌, ◌<◌, ◌≤◌, List, length, Contains, Option, Some, None, is_some, refl, sym, ap, subst, ◌∙◌, arith, ⊎_elim}
use Rattle.std.specs.Prelude.{IfSome, slice_index}
use Rattle.std.proofs.lemmas.Bool.{cases_lt}
use Rattle.std.proofs.lemmas.List.{get_or_past}
use Rattle.ap_desc.specs.Clean.{IsClean}
use Rattle.ap_desc.specs.declared.design.Design.{Design}
use Rattle.ap_dist.specs.LeastStarts.{AreLeastStarts, MayStart, drain_of}
use Rattle.ap_dist.specs.Places.{ArePlaces, IsPlainNop, IsWordOfLine, end_before, line_at}
use Rattle.ap_dist.specs.Spaced.{IsSpaced, word_at}
use Rattle.ap_dist.specs.declared.source.Source.{Source}
use Rattle.ap_dist.specs.declared.source.SourceLine.{SourceLine}
use Rattle.ap_image.specs.FitsShape.{MemsFit, WordsFit}
use Rattle.ap_image.specs.declared.image.Image.{Image}
use Rattle.ap_model.specs.DesignShape.{shape_of}
use Rattle.ap_program.specs.Fits.{SourceFits}
use Rattle.ap_asm.specs.Assembled.{IsAssembled}
use Rattle.ap_asm.specs.Conflicts.{AreSlotsApart}
use Rattle.ap_asm.specs.Layouts.{AreStarts}
use Rattle.ap_asm.specs.LinePlaces.{MayStand}
use Rattle.ap_asm.specs.Listings.{listing_text}
use Rattle.ap_asm.specs.Standing.{AreEnds, ArePicked, AreRising, HoldsGroups}
use Rattle.ap_asm.specs.Words.{AreAddresses}
use Rattle.ap_asm.specs.declared.assembling.Assembled.{Assembled}
use Rattle.ap_asm.proofs.FittingImages.{code_fits}
use Rattle.ap_asm.proofs.GroupLines.{ends_grow, there}
use Rattle.ap_asm.proofs.Placement.{IsPlacement, word_distance, word_here, word_of_line, word_out}
use Rattle.ap_asm.proofs.Sizes.{enough_places, room_ends, room_low, some_stages}
use Rattle.ap_asm.proofs.Spacing.{is_spaced}
use Rattle.ap_asm.proofs.Starting.{stacked_of}

-- Where groups end.

-- they are addresses
pub ends_low : (design : Design) → IsClean design → (source : Source) (starts ends : List ℕ) → AreStarts design source (length source.groups) starts → AreEnds design source starts (length source.groups) ends → (g : ℕ) → slice_index ends g < 65536
ends_low design clean source starts ends known ended g = ⊎_elim
    (λ inside.
    let a = ended.each g (omega arith) in
    let top = known.within g (omega arith) in
    let low = room_low design clean in
    omega arith)
    (λ past. let z : slice_index ends g ≡ 0 = get_or_past ends g 0 (let size = ended.size in omega arith) in omega arith)
    (cases_lt g (length source.groups + 1))

pub ends_rising : (design : Design) → IsClean design → (source : Source) (starts ends : List ℕ) → AreStarts design source (length source.groups) starts → AreEnds design source starts (length source.groups) ends → AreRising ends
ends_rising design clean source starts ends known ended = record {
  rise = λ g h lt top.
      let size = ended.size in
      let a = ended.each g (omega arith) in
      let b = ended.each h (omega arith) in
      let grow = ends_grow design source starts (length source.groups) (stacked_of design source starts (length source.groups) known) (omega arith) g h lt (omega arith) in
      omega arith;
  low = λ g. (let a = ends_low design clean source starts ends known ended g in omega arith);
}

pub ends_address : (design : Design) → IsClean design → (source : Source) (starts ends : List ℕ) → AreStarts design source (length source.groups) starts → AreEnds design source starts (length source.groups) ends → AreAddresses design ends
ends_address design clean source starts ends known ended g = ⊎_elim
    (λ inside.
    let a = ended.each g (omega arith) in
    let top = known.within g (omega arith) in
    let e = room_ends design clean in
    let some = some_stages design clean in
    omega arith)
    (λ past. let z : slice_index ends g ≡ 0 = get_or_past ends g 0 (let size = ended.size in omega arith) in let many = enough_places design clean in omega arith)
    (cases_lt g (length source.groups + 1))

pub starts_low : (design : Design) → IsClean design → (source : Source) (starts : List ℕ) → AreStarts design source (length source.groups) starts → (g : ℕ) → slice_index starts g < 65536
starts_low design clean source starts known g = ⊎_elim
    (λ inside.
    let top = known.within (suc g) (omega arith) in
    let below : slice_index starts g ≤ end_before design source starts (suc g) = omega arith in
    let low = room_low design clean in
    omega arith)
    (λ past. let z : slice_index starts g ≡ 0 = get_or_past starts g 0 (let size = known.size in omega arith) in omega arith)
    (cases_lt g (length source.groups))

-- The places.

are_places : (design : Design) (source : Source) (starts ends landings : List ℕ) (image : Image) → IsPlacement design source starts ends image → ArePicked design source ends (length ends) landings → image.mems ≡ source.mems → ArePlaces design source starts image landings
are_places design source starts ends landings image p picked mems = record {
  starts_of_groups = p.known.size;
  in_order = stacked_of design source starts (length source.groups) p.known;
  lines = λ g i. of_line g i (line_at source g i) refl;
  others = λ place lt free. subst (IsPlainNop design) (sym (word_here design image place lt)) (p.held.others place lt (λ g i l is at. free g i is at));
  landings_of_source = record {
    rise = picked.rise;
    each = λ g le is. subst (Contains landings) (p.ended.each g le) (picked.each g (let size = p.ended.size in omega arith) is);
    only = λ landing there no. picked.only landing there (λ g lt is at. no g (let size = p.ended.size in omega arith) is (sym (p.ended.each g (let size = p.ended.size in omega arith)) ∙ at));
  };
  mems = mems;
}
  where
    of_line : (g i : ℕ) (o : Option SourceLine) → line_at source g i ≡ o → IfSome o (λ line. IsWordOfLine design source starts line (word_at design image (slice_index starts g + i)))
    of_line g i None e = tt
    of_line g i (Some line) e = word_of_line design source starts ends image p g i line e

-- The starts.

may_start : (design : Design) (source : Source) (starts ends : List ℕ) (image : Image) → IsPlacement design source starts ends image → (drain g place : ℕ) → MayStand design source starts drain g place → MayStart design source starts image drain g place
may_start design source starts ends image p drain g place may = record {
  behind = may.behind;
  drained = may.drained;
  apart = λ h i j lt a b.
      let x = there source h i a in
      let y = there source g j b in
      let e = word_distance design source starts ends image p h i g j x.line y.line x.is_line y.is_line in
      let le = may.apart h i j x.line y.line lt x.is_line y.is_line in
      omega arith;
  taken = λ h i lt a is.
      let x = there source h i a in
      let e = word_out design source starts ends image p h i x.line x.is_line in
      let le = may.taken h i x.line lt x.is_line is in
      omega arith;
}

may_stand : (design : Design) (source : Source) (starts ends : List ℕ) (image : Image) → IsPlacement design source starts ends image → (drain g place : ℕ) → MayStart design source starts image drain g place → MayStand design source starts drain g place
may_stand design source starts ends image p drain g place may = record {
  behind = may.behind;
  drained = may.drained;
  apart = λ h i j older younger lt a b.
      let e = word_distance design source starts ends image p h i g j older younger a b in
      let le = may.apart h i j lt (ap is_some a) (ap is_some b) in
      omega arith;
  taken = λ h i older lt a is.
      let e = word_out design source starts ends image p h i older a in
      let le = may.taken h i lt (ap is_some a) is in
      omega arith;
}

are_least : (design : Design) (source : Source) (starts ends : List ℕ) (image : Image) (drain : ℕ) → IsPlacement design source starts ends image → drain ≡ drain_of design source → AreLeastStarts design source starts image drain
are_least design source starts ends image drain p e = subst (AreLeastStarts design source starts image) (sym e) (record {
  drain_of_program = refl;
  may = λ g lt. may_start design source starts ends image p (drain_of design source) g (slice_index starts g) (p.known.least g lt).may;
  least = λ g place lt at may. (p.known.least g lt).least place at (may_stand design source starts ends image p (drain_of design source) g place may);
})

-- All of it.

pub is_assembled : (design : Design) (source : Source) (starts ends landings code : List ℕ) (drain : ℕ) (made : Assembled) → IsClean design → SourceFits design source → AreSlotsApart design source → AreStarts design source (length source.groups) starts
    → AreEnds design source starts (length source.groups) ends → ArePicked design source ends (length ends) landings → HoldsGroups design source starts ends (length source.groups) code → MemsFit source.mems (shape_of design).mems → drain ≡ drain_of design source
    → made.image.code ≡ code → made.image.mems ≡ source.mems → made.starts ≡ starts → made.landings ≡ landings → made.drain ≡ drain → made.placed ≡ slice_index ends (length source.groups)
    → made.listing ≡ listing_text design drain landings (slice_index ends (length source.groups)) code → IsAssembled design source made
is_assembled design source starts ends landings code drain made clean fits apart known ended picked held mems of_program is_code is_mems is_starts is_landings is_drain is_placed is_listing = record {
  places = subst (λ s. ArePlaces design source s made.image made.landings) (sym is_starts) (subst (ArePlaces design source starts made.image) (sym is_landings) (are_places design source starts ends landings made.image p picked is_mems));
  least = subst (λ s. AreLeastStarts design source s made.image made.drain) (sym is_starts) (are_least design source starts ends made.image made.drain p (is_drain ∙ of_program));
  spaced = subst (λ l. IsSpaced design made.image l made.drain) (sym is_landings) (is_spaced design source starts ends landings made.image made.drain p apart (subst (λ n. ArePicked design source ends n landings) ended.size picked) (is_drain ∙ of_program));
  fits = record {
    code = subst (λ ws. WordsFit ws design.address design.word) (sym is_code) (code_fits design clean source starts ends code held);
    mems = subst (λ ms. MemsFit ms (shape_of design).mems) (sym is_mems) mems;
  };
  size = ap length is_code ∙ held.size;
  placed = is_placed ∙ ended.each (length source.groups) (omega arith) ∙ sym (ap (λ s. end_before design source s (length s)) is_starts ∙ ap (end_before design source starts) known.size);
  listing = is_listing ∙ sym (ap (λ d. listing_text design d made.landings made.placed made.image.code) is_drain ∙ ap (λ l. listing_text design drain l made.placed made.image.code) is_landings
      ∙ ap (λ n. listing_text design drain landings n made.image.code) is_placed ∙ ap (listing_text design drain landings (slice_index ends (length source.groups))) is_code);
}
  where
    p : IsPlacement design source starts ends made.image
    p = record { clean = clean; fits = fits; known = known; ended = ended; held = subst (HoldsGroups design source starts ends (length source.groups)) (sym is_code) held }
