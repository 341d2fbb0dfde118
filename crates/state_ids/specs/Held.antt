-- A page in a frame, and what it takes to change it.
use Rattle.std.specs.Prelude.{◌≡◌, ◌+◌, ◌≤◌, ℕ, List, Option, Some, slice_set, slice_index_or}
use Rattle.sd_base.specs.Places.{page_of_place}
use Rattle.sd_base.specs.declared.shape.Shape.{Shape}
use Rattle.sd_base.specs.declared.device.NodeId.{NodeId}
use Rattle.sd_base.specs.declared.names.PageNo.{PageNo}
use Rattle.sd_base.specs.declared.page_op.PageOp.{PageOp}
use Rattle.page_owner.specs.Owners.{Grant}
use Rattle.frame_pool.specs.Frames.{frame_at}
use Rattle.page_image.specs.declared.page_view.PageView.{PageView}
use Rattle.space_map.specs.declared.map_entry.MapEntry.TheVariants.{Free}
use Rattle.space_map.specs.Image.{MapImage}
use Rattle.state_ids.specs.PageImage.{PageImage, IsText, data_page, map_page}

-- A page in a frame: its ticket, the shape of the store that it was loaded from, and the number of the last log record of
-- its changes, if it was changed here.
pub record HeldPage : Type 0 where
  pub frame : ℕ
  pub ticket : Grant
  pub shape : Shape
  pub last : ℕ

-- A record in the log of a node: of which page, with which identifier before it, the change, and its number.
pub record LoggedChange : Type 0 where
  pub page : PageNo
  pub node : NodeId
  pub ident : ℕ
  pub op : PageOp
  pub number : ℕ

-- this frame of a pool holds the page
pub record Shows (pool : List (Option (List ℕ))) (frame : ℕ) (image : PageImage) : Type 0 where
  pub bytes : List ℕ
  pub held : frame_at pool frame ≡ Some bytes
  pub text : IsText image bytes

-- nothing of the pool has changed but what this frame holds
abbrev pub KeepsFrames : ℕ → List (Option (List ℕ)) → List (Option (List ℕ)) → Type 0
KeepsFrames frame old new = new ≡ slice_set old frame (frame_at new frame)

-- In a store of this shape, the map page in the one frame has the data page in the other one as free, with the identifier
-- behind the page's own.
pub record IsFreed (shape : Shape) (pool : List (Option (List ℕ))) (frame map : ℕ) : Type 0 where
  pub page : PageView
  pub content : Shows pool frame (data_page page)
  pub image : MapImage
  pub entries : Shows pool map (map_page image)
  pub place : ℕ
  pub within : place ≤ 251
  pub number : page.page.0 ≡ page_of_place shape image.page.0 place
  pub free : slice_index_or image.entries place (Free 0) ≡ Free (page.ident + 1)
