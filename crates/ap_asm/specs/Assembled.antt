-- A program in the memories of its processor.
use Rattle.std.specs.Prelude.{◌≡◌, ◌^◌, length}
use Rattle.ap_desc.specs.declared.design.Design.{Design}
use Rattle.ap_dist.specs.LeastStarts.{AreLeastStarts}
use Rattle.ap_dist.specs.Places.{ArePlaces, end_before}
use Rattle.ap_dist.specs.Spaced.{IsSpaced}
use Rattle.ap_dist.specs.declared.source.Source.{Source}
use Rattle.ap_image.specs.FitsShape.{ImageFitsShape}
use Rattle.ap_model.specs.DesignShape.{shape_of}
use Rattle.ap_asm.specs.Listings.{listing_text}
use Rattle.ap_asm.specs.declared.assembling.Assembled.{Assembled}

-- this is the program at its places: what each part is
pub record IsAssembled (design : Design) (source : Source) (made : Assembled) : Type 0 where
  pub places : ArePlaces design source made.starts made.image made.landings
  pub least : AreLeastStarts design source made.starts made.image made.drain
  pub spaced : IsSpaced design made.image made.landings made.drain
  pub fits : ImageFitsShape made.image (shape_of design)
  pub size : length made.image.code ≡ 2 ^ design.address
  pub placed : made.placed ≡ end_before design source made.starts (length made.starts)
  pub listing : made.listing ≡ listing_text design made.drain made.landings made.placed made.image.code
