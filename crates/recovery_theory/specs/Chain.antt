-- The chain of one page: which changes lead from its base image to its recovered one, and in which logs they stand. A step has
-- the identifier that the page had before it (bsi, as log records say); each step raises it by one.
use Rattle.std.specs.Prelude.{ℕ, suc, ⊤, ◌≡◌, ◌≢◌, ◌<◌, cond, eqb, leb, List, [], ◌∷◌, ◌++◌}
use Rattle.sd_base.specs.declared.page_op.PageOp.{PageOp}
use Rattle.sd_base.specs.declared.page_op.PageOp.TheVariants.{Put, Append, Cut, MapUse, MapFree}
use Rattle.recovery_theory.specs.Pages.{entries_of, birth_of}
use Rattle.recovery_theory.specs.Effect.{Step}
use Rattle.space_map.specs.PageImage.{PageImage, ident_of, changed}

-- the steps from identifier b on
abbrev pub steps_from : ℕ → List Step → List Step
steps_from b [] = []
steps_from b (s ∷ l) = cond (leb b s.bsi) (s ∷ steps_from b l) (steps_from b l)

-- the steps that lead to identifier b
abbrev pub steps_to : ℕ → List Step → List Step
steps_to b [] = []
steps_to b (s ∷ l) = cond (eqb (suc s.bsi) b) (s ∷ steps_to b l) (steps_to b l)

-- the identifiers of these steps rise
abbrev pub Rises : List Step → Type 0
Rises [] = ⊤
Rises (s ∷ []) = ⊤
Rises (s ∷ t ∷ l) = (s.bsi < t.bsi) × Rises (t ∷ l)

-- a change, and the node that logged it
pub record NodeChange : Type 0 where
  pub node : ℕ
  pub op : PageOp

-- what these changes of a page, the first of which finds identifier b, put into the log of node n
abbrev pub in_log : ℕ → ℕ → List NodeChange → List Step
in_log n b [] = []
in_log n b (a ∷ h) = cond (eqb a.node n) (record { bsi = b; op = a.op } ∷ in_log n (suc b) h) (in_log n (suc b) h)

-- changes that one node has logged
abbrev pub all_by : ℕ → List PageOp → List NodeChange
all_by n [] = []
all_by n (op ∷ l) = record { node = n; op = op } ∷ all_by n l

-- the page after these changes
abbrev pub replay : List NodeChange → PageImage → PageImage
replay [] i = i
replay (a ∷ h) i = replay h (changed a.op i)

-- redo of one page over one log: a step is made where its identifier is the image's
abbrev pub redo_page : List Step → PageImage → PageImage
redo_page [] i = i
redo_page (s ∷ l) i = redo_page l (cond (eqb s.bsi (ident_of i)) (changed s.op i) i)

-- the life that a change gives to another page begins above the one that the page's entry has
abbrev pub RaisesLife : PageImage → PageOp → Type 0
RaisesLife i (Put slot after) = ⊤
RaisesLife i (Append slot bytes) = ⊤
RaisesLife i (Cut slot present len) = ⊤
RaisesLife i (MapUse place group) = ⊤
RaisesLife i (MapFree place ident) = birth_of (entries_of i place) < ident

-- each of these changes does so, in the page as the ones before it leave it
abbrev pub RaiseLives : PageImage → List NodeChange → Type 0
RaiseLives i [] = ⊤
RaiseLives i (a ∷ h) = RaisesLife i a.op × RaiseLives (changed a.op i) h

-- A page's history. From the base image (the archived one, or that of its birth) the changes `old` lead to the image that the
-- disk has, and the changes `new`, all of them logged by the node `last`, lead on to the recovered image. The kept logs and the
-- live ones have exactly these changes from the base's identifier on, each once and in its node's log (linked), and the kept ones
-- none that the disk lacks (near).
pub record ChainedBy (base disk : PageImage) (kept live : ℕ → List Step) (image : PageImage) (last : ℕ) : Type 0 where
  pub old : List NodeChange
  pub new : List PageOp
  pub linked : (n : ℕ) → steps_from (ident_of base) (kept n ++ live n) ≡ in_log n (ident_of base) (old ++ all_by last new)
  pub same : disk ≡ replay old base
  pub near : (n : ℕ) → steps_from (ident_of disk) (kept n) ≡ []
  pub whole : image ≡ replay (all_by last new) disk
  pub rising : RaiseLives base (old ++ all_by last new)

-- the page has a history in which some node logged the new changes
abbrev pub Chained : PageImage → PageImage → (ℕ → List Step) → (ℕ → List Step) → PageImage → Type 0
Chained base disk kept live image = (last : ℕ) × ChainedBy base disk kept live image last

-- ---- laws

-- a change that node n logs, where no other log has one that the disk lacks, goes on with the history
abbrev pub ChainGrows : Type 0
ChainGrows = (base disk image : PageImage) (kept live live' : ℕ → List Step) (n : ℕ) (op : PageOp)
    → Chained base disk kept live image
    → ((m : ℕ) → m ≢ n → steps_from (ident_of disk) (live m) ≡ [])
    → live' n ≡ live n ++ record { bsi = ident_of image; op = op } ∷ []
    → ((m : ℕ) → m ≢ n → live' m ≡ live m)
    → RaisesLife image op
    → Chained base disk kept live' (changed op image)

-- redo over one log gives the recovered image, or the disk's where that log has nothing that the disk lacks
abbrev pub ChainRedoes : Type 0
ChainRedoes = (base disk image : PageImage) (kept live : ℕ → List Step) (n : ℕ)
    → Chained base disk kept live image
    → ((m : ℕ) → m ≢ n → steps_from (ident_of disk) (live m) ≡ [])
    → redo_page (live n) disk ≡ image
