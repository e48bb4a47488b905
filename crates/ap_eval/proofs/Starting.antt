-- The state of a bench after the reset edge.
use Rattle.std.proofs.Common.{◌≡◌, ◌≢◌, ℕ, zero, suc, ◌+◌, ◌^◌, ◌<◌, ◌⊎◌, inl, inr, List, [], ◌∷◌, ◌++◌, length, map, take, get_or, Some, sym, ap, subst, ◌∙◌, arith}
use Rattle.std.specs.Prelude.{slice_get, slice_index, option_map}
use Rattle.std.specs.List.{AllByRecursion as Each}
use Rattle.std.proofs.lemmas.List.{length-map, map_push, take_more}
use Rattle.std.proofs.lemmas.Option.{get_or_from_slice_get, slice_get-map}
use Rattle.ap_image.specs.declared.image.Image.{Image}
use Rattle.ap_image.specs.declared.shape.MemShape.{MemShape}
use Rattle.ap_image.specs.FitsShape.{ImageFitsShape, MemsFit, WordsFit}
use Rattle.ap_net.specs.declared.cell.Cell.{Cell}
use Rattle.ap_net.specs.declared.cell.Cell.TheVariants as cell
use Rattle.ap_net.specs.declared.net.FlatNet.{FlatNet}
use Rattle.ap_net.specs.declared.net.ModuleNet.{ModuleNet}
use Rattle.ap_net.specs.declared.net.Next.{Next}
use Rattle.ap_net.specs.declared.net.Role.TheVariants as role
use Rattle.ap_net.specs.Wiring.{IsSource, NextFits, Unclocked}
use Rattle.ap_net.specs.Flat.{plain_nets, reset_in}
use Rattle.ap_net.specs.Outside.{shape_of}
use Rattle.ap_net.specs.Registers.{held}
use Rattle.ap_net.specs.Runs.{reset_state}
use Rattle.ap_net.specs.Answering.{StateFits}
use Rattle.ap_net.proofs.Fits.{length-plain}
use Rattle.ap_net.proofs.Lists.{All-from}
use Rattle.ap_net.proofs.Parts.{net_of_width}
use Rattle.ap_net.proofs.Registers.{reset_fit}
use Rattle.ap_net.proofs.Wired.{number-IsNet}
use Rattle.ap_flat.specs.Flats.{FlatParts, IsFlattened}
use Rattle.ap_flat.specs.declared.driver.Driver.{Driver}
use Rattle.ap_flat.specs.declared.driver.Driver.TheVariants as driver
use Rattle.ap_eval.specs.declared.spot.Spot.{Spot}
use Rattle.ap_eval.specs.Benches.{started}
use Rattle.ap_eval.specs.BenchViews.{IsReady, bench_state, net_state, rooms_by}
use Rattle.ap_eval.specs.Cells.{Cells, first_words, other_words, rooms_of, words_of}
use Rattle.ap_eval.specs.Ops.{constant_of, first_values}
use Rattle.ap_eval.proofs.Beginning.{source_free}
use Rattle.ap_eval.proofs.Edge.{give_all-length, give_all-other, give_all-registers, held_read}
use Rattle.ap_eval.proofs.Limits.{nothing_row}

-- the words of a memory fit it
pub fit_at : (mems : List (List ℕ)) (ms : List MemShape) → MemsFit mems ms → (n : ℕ) → n < length ms → (words : List ℕ) (m : MemShape) → WordsFit (get_or mems n words) (get_or ms n m).address (get_or ms n m).width
fit_at [] [] fits n lt words m = absurd (omega arith)
fit_at [] (x ∷ ms) fits n lt words m = absurd fits
fit_at (w ∷ mems) [] fits n lt words m = absurd fits
fit_at (w ∷ mems) (x ∷ ms) fits zero lt words m = fits.0
fit_at (w ∷ mems) (x ∷ ms) fits (suc n) lt words m = fit_at mems ms fits.1 n (omega arith) words m

-- a memory more, with the next words
pub rooms_more : (ms : List MemShape) (n : ℕ) (d : MemShape) → n < length ms → (head : ℕ) (before after : List Cells) (m : Cells) → after ≡ before ++ m ∷ [] → m.room ≡ 2 ^ (get_or ms n d).address
    → rooms_of before ≡ head ∷ map (λ (x : MemShape). 2 ^ x.address) (take n ms) → rooms_of after ≡ head ∷ map (λ (x : MemShape). 2 ^ x.address) (take (n + 1) ms)
rooms_more ms n d lt head before after m grown room so =
    ap rooms_of grown ∙ map_push (λ (x : Cells). x.room) before m ∙ (λ i. so i ++ room i ∷ [])
    ∙ ap (λ (l : List ℕ). head ∷ l) (sym (map_push (λ (x : MemShape). 2 ^ x.address) (take n ms) (get_or ms n d)) ∙ ap (map (λ (x : MemShape). 2 ^ x.address)) (sym (take_more ms n d lt)))

pub words_more : (mems : List (List ℕ)) (n : ℕ) (d : List ℕ) → n < length mems → (code : List ℕ) (before after : List Cells) (m : Cells) → after ≡ before ++ m ∷ [] → m.words ≡ get_or mems n d
    → words_of before ≡ code ∷ take n mems → words_of after ≡ code ∷ take (n + 1) mems
words_more mems n d lt code before after m grown words so =
    ap words_of grown ∙ map_push (λ (x : Cells). x.words) before m ∙ (λ i. so i ++ words i ∷ []) ∙ ap (λ (l : List (List ℕ)). code ∷ l) (sym (take_more mems n d lt))

module _ (f : FlatParts) (is : IsFlattened f) where
  abbrev nets : List ModuleNet
  nets = plain_nets f.net.nets

  abbrev constants : List ℕ
  constants = map (λ (d : Driver). constant_of (Some d)) f.drivers

  abbrev resets : List ℕ
  resets = map (λ (x : Next). reset_in f.net x.register.number) f.net.nexts

  constants_long : length constants ≡ length f.net.nets
  constants_long = length-map f.drivers (λ (d : Driver). constant_of (Some d)) ∙ is.drivers.long

  -- registers are among the nets
  pub registers_low : Each (λ (x : Next). x.register.number < length constants) f.net.nexts
  registers_low =
      let long : length constants ≡ length f.net.nets = constants_long in
      let plain : length nets ≡ length f.net.nets = length-plain f.net.nets in
      All-from (NextFits nets) (λ (x : Next). x.register.number < length constants) (λ x h. let lt : x.register.number < length nets = number-IsNet nets x.register h.register in omega arith) f.net.nexts is.opened.registers

  -- at the reset edge each register has its value
  registers_are : map (λ (x : Next). slice_index (first_values f) x.register.number) f.net.nexts ≡ resets
  registers_are = give_all-registers f.net.nexts resets constants (is.opened.clocked).once registers_low (length-map f.net.nexts (λ (x : Next). reset_in f.net x.register.number))

  unclocked : (n : ℕ) (c : Cell) → slice_get f.drivers n ≡ Some (driver.Equation c) → Unclocked f.net.nexts n
  unclocked n c at =
      All-from (NextFits nets) (λ (x : Next). x.register.number ≢ n) (λ x h same.
      let net = net_of_width nets x.register.number x.register.width h.register.declared in
      source_free f is n net.0 c (subst (λ k. slice_get nets k ≡ Some net.0) same net.1) (subst IsSource (sym (h.clocked net.0 net.1)) tt) at)
      f.net.nexts is.opened.registers

  constant_first : (n c : ℕ) → slice_get f.drivers n ≡ Some (driver.Equation (cell.Const c)) → slice_index (first_values f) n ≡ c
  constant_first n c at =
      give_all-other f.net.nexts resets constants n (unclocked n (cell.Const c) at)
      ∙ get_or_from_slice_get constants n c 0 (slice_get-map (λ (d : Driver). constant_of (Some d)) f.drivers n ∙ ap (option_map (λ (d : Driver). constant_of (Some d))) at)

  register_first : (n : ℕ) (net : FlatNet) (reset : ℕ) → slice_get f.net.nets n ≡ Some net → net.role ≡ role.Register reset
      → slice_index (first_values f) n ≡ held f.net.nexts (map (λ (x : Next). slice_index (first_values f) x.register.number) f.net.nexts) n
  register_first n net reset at is_reg = go (held_read (slice_index (first_values f)) f.net.nexts n)
    where
      go : (held f.net.nexts (map (λ (x : Next). slice_index (first_values f) x.register.number) f.net.nexts) n ≡ slice_index (first_values f) n) ⊎ (Unclocked f.net.nexts n × ((r : List ℕ) → held f.net.nexts r n ≡ 0))
          → slice_index (first_values f) n ≡ held f.net.nexts (map (λ (x : Next). slice_index (first_values f) x.register.number) f.net.nexts) n
      go (inl e) = sym e
      go (inr free) = absurd (is.clocked n net reset at is_reg free.0)

  module _ (image : Image) (fits : ImageFitsShape image (shape_of f.outside)) (values : List ℕ) (memories : List Cells) (values_are : values ≡ first_values f)
      (words : words_of memories ≡ image.code ∷ image.mems) (rooms : rooms_of memories ≡ rooms_by f.outside) where
    code_is : first_words (words_of memories) ≡ image.code
    code_is = ap first_words words

    state_is : net_state f values memories ≡ reset_state f.net image
    state_is =
        let r = ap (λ (l : List ℕ). map (λ (x : Next). slice_index l x.register.number) f.net.nexts) values_are ∙ registers_are in
        let m = ap other_words words in
        λ i. record { registers = r i; mems = m i }

    -- it is that of the netlist
    pub started_is : (shown : List ℕ) → ((n : ℕ) → slice_index shown n ≡ 0) → (spots : List Spot) → bench_state f values memories shown spots ≡ started f image
    started_is shown zeros spots =
        let row = nothing_row shown zeros _ spots in
        λ i. record { flat = f; code = code_is i; state = state_is i; row = row i }

    -- and the bench is ready for cycles
    pub started_ready : IsReady f values memories
    started_ready = record {
      long = ap length values_are ∙ give_all-length f.net.nexts resets constants ∙ constants_long;
      constants = λ n c at. ap (λ (l : List ℕ). slice_index l n) values_are ∙ constant_first n c at;
      registers = λ n net reset at is_reg. subst (λ (l : List ℕ). slice_index l n ≡ held f.net.nexts (map (λ (x : Next). slice_index l x.register.number) f.net.nexts) n) (sym values_are) (register_first n net reset at is_reg);
      rooms = rooms;
      code = subst (λ (w : List ℕ). WordsFit w f.outside.address f.outside.word) (sym code_is) fits.code;
      fits = subst (StateFits f.outside f.net) (sym state_is) (record { registers = reset_fit f.net is.opened; mems = fits.mems });
    }
