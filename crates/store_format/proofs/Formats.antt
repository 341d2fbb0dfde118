-- The devices of a store once they are written.
use Rattle.std.proofs.Common.{◌≡◌, ◌≢◌, ◌⊎◌, ◌≤◌, ◌<◌, ◌+◌, ◌%◌, ◌∙◌, ℕ, true, false, List, Option, Some, None, inl, inr, ap, subst, arith}
use Rattle.std.proofs.lemmas.Nat.{mod_below}
use Rattle.sd_base.specs.Disk.{BlockState, MayHold}
use Rattle.sd_base.specs.Calls.{NarrowsBut, Narrows, Covers, KeepsForeign}
use Rattle.sd_base.specs.Text.{zero_block}
use Rattle.sd_base.specs.Supers.{super_text}
use Rattle.sd_base.specs.Shape.{IsShape, first_page, disk_need, anchor_place, ring_place, first_image, vault_need}
use Rattle.sd_base.specs.declared.shape.Shape.{Shape}
use Rattle.store_format.specs.Device.{IsAllCovered}
use Rattle.store_format.specs.Stretch.{IsOutside, Fills, CutsFill, Lays}
use Rattle.store_format.specs.Layout.{disk_text, head_text}
use Rattle.store_format.specs.Formatted.{IsBornDisk, IsFormattedDisk, IsFormattedVault, IsSpare, FormatsDisk, FormatsVault}
use Rattle.store_format.proofs.Stretches.{no_writer}
use Rattle.store_format.proofs.Layouts.{log_within, text_of_anchor, text_of_ring, text_of_page, text_of_map, text_of_data, text_of_vault_super, text_of_vault_anchor}

-- a block that is as it was has the outcomes that it had
pub may_same : (b c : ℕ → BlockState) (k : ℕ) (o : Option (List ℕ)) → c k ≡ b k → MayHold c k o → MayHold b k o
may_same b c k o same may = subst (λ (s : BlockState). Rattle.sd_base.specs.Outcomes.among s.outcomes o ≡ true) same may

-- a disk whose blocks were laid place by place
pub born_of : (s : Shape) (a b : ℕ → BlockState) → IsShape s → Lays 1 (disk_need s) (disk_text s) a b → IsBornDisk s b
born_of s a b shape l = record {
  anchors = λ n some most o may.
      l.within (anchor_place false s n) (omega arith) (omega (arith, log_within s n some most)) o may ∙ ap Some (text_of_anchor s n some most);
  rings = λ n number some most o may.
      let low : number % s.ring < s.ring = mod_below number s.ring (omega (arith, shape.ring)) in
      l.within (ring_place s n number) (omega arith) (omega (arith, log_within s n some most)) o may
      ∙ ap Some (text_of_ring s n (1 + number % s.ring) (ring_place s n number) some most (omega arith) (omega arith) (omega arith));
  maps = λ x low o may.
      l.within (first_page s + x) (omega arith) (omega arith) o may ∙ ap Some (text_of_page s x ∙ text_of_map s x low);
  pages = λ x high low o may.
      l.within (first_page s + x) (omega arith) (omega arith) o may ∙ ap Some (text_of_page s x ∙ text_of_data s x high);
}

-- a disk of which block 0 alone has changed, or nothing that a stop leaves
pub born_kept : (s : Shape) (b c : ℕ → BlockState) → ((k : ℕ) (o : Option (List ℕ)) → 1 ≤ k → MayHold c k o → MayHold b k o) → IsBornDisk s b → IsBornDisk s c
born_kept s b c narrows born = record {
  anchors = λ n some most o may. born.anchors n some most o (narrows (anchor_place false s n) o (omega arith) may);
  rings = λ n number some most o may. born.rings n number some most o (narrows (ring_place s n number) o (omega arith) may);
  maps = λ x low o may. born.maps x low o (narrows (first_page s + x) o (omega arith) may);
  pages = λ x high low o may. born.pages x high low o (narrows (first_page s + x) o (omega arith) may);
}

-- the super on a disk that stands behind it
pub super_laid : (s : Shape) (text : List ℕ) (a b c : ℕ → BlockState) → IsShape s → text ≡ super_text false s → Lays 1 (disk_need s) (disk_text s) a b → Lays 0 1 (λ k. text) b c → IsFormattedDisk s c
super_laid s text a b c shape is behind l = record {
  super = λ o may. l.within 0 (omega arith) (omega arith) o may ∙ ap Some is;
  born = born_kept s b c (λ k o some may. may_same b c k o (l.outside k (inr some)) may) (born_of s a b shape behind);
}

-- the port stopped while the super was written
pub super_cut : (s : Shape) (a b c : ℕ → BlockState) → IsShape s → Lays 1 (disk_need s) (disk_text s) a b → CutsFill 0 1 b c → IsBornDisk s c
super_cut s a b c shape behind cut =
    born_kept s b c (λ k o some may. may_same b c k o (cut.outside k (inr some) (no_writer (b k).writer (behind.quiet k))) may) (born_of s a b shape behind)

-- what the super leaves alone
pub disk_laid : (s : Shape) (text : List ℕ) (a b c : ℕ → BlockState) → text ≡ super_text false s → Lays 1 (disk_need s) (disk_text s) a b → NarrowsBut 0 text b c → ((k : ℕ) → 1 ≤ k → c k ≡ b k) → IsAllCovered c → FormatsDisk s a c
disk_laid s text a b c is behind narrows others quiet = record {
  super = λ o may. elim (narrows 0 o may) [
    | inl before ↦ inl (may_same a b 0 o (behind.outside 0 (inl (omega arith))) before)
    | inr new ↦ inr (new.1 ∙ ap Some is)
  ];
  behind = λ k high. others k (omega arith) ∙ behind.outside k (inr high);
  quiet = quiet;
}

-- the port stopped before the super was written
pub disk_cut : (s : Shape) (a c : ℕ → BlockState) → IsAllCovered a → CutsFill 1 (disk_need s) a c → FormatsDisk s a c
disk_cut s a c quiet cut = record {
  super = λ o may. inl (may_same a c 0 o (cut.outside 0 (inl (omega arith)) (no_writer (a 0).writer (quiet 0))) may);
  behind = λ k high. cut.outside k (inr high) (no_writer (a k).writer (quiet k));
  quiet = cut.quiet;
}

-- what isn't written of a vault lies outside of both stretches
spare_head : (s : Shape) (k : ℕ) → IsSpare s k → IsOutside 0 (s.nodes + 1) k
spare_head s k (inl kept) = inr (omega (arith, kept.0))
spare_head s k (inr behind) = inr (omega arith)

spare_images : (s : Shape) (k : ℕ) → IsSpare s k → IsOutside (first_image s) (vault_need s) k
spare_images s k (inl kept) = inl kept.1
spare_images s k (inr behind) = inr behind

-- a spare block through both stretches
spare_kept : (s : Shape) (a b c : ℕ → BlockState) (k : ℕ) → IsAllCovered a → b k ≡ a k → ((b k).writer ≢ Some 1 → c k ≡ b k) → c k ≡ a k
spare_kept s a b c k quiet one two =
    let none : (b k).writer ≡ None = ap (λ (st : BlockState). st.writer) one ∙ quiet k in
    two (no_writer (b k).writer none) ∙ one

-- the port stopped while the super or an anchor of the vault was written
pub vault_cut_first : (s : Shape) (a b : ℕ → BlockState) → IsAllCovered a → CutsFill 0 (s.nodes + 1) a b → FormatsVault s a b
vault_cut_first s a b quiet cut = record {
  spare = λ k spare. cut.outside k (spare_head s k spare) (no_writer (a k).writer (quiet k));
  quiet = cut.quiet;
}

-- the port stopped while the images were written
pub vault_cut_then : (s : Shape) (a b c : ℕ → BlockState) → IsAllCovered a → Fills 0 (s.nodes + 1) (head_text s) a b → CutsFill (first_image s) (vault_need s) b c → FormatsVault s a c
vault_cut_then s a b c quiet f cut = record {
  spare = λ k spare. spare_kept s a b c k quiet (f.outside k (spare_head s k spare) (no_writer (a k).writer (quiet k))) (cut.outside k (spare_images s k spare));
  quiet = cut.quiet;
}

-- the vault through its barrier, done or not
pub vault_formats : (s : Shape) (a b c d : ℕ → BlockState) → IsAllCovered a → Fills 0 (s.nodes + 1) (head_text s) a b → Fills (first_image s) (vault_need s) (λ k. zero_block) b c → KeepsForeign 1 c d → IsAllCovered d → FormatsVault s a d
vault_formats s a b c d quiet head images keeps still = record {
  spare = λ k spare.
      let one : c k ≡ a k = spare_kept s a b c k quiet (head.outside k (spare_head s k spare) (no_writer (a k).writer (quiet k))) (images.outside k (spare_images s k spare)) in
      spare_kept s a c d k quiet one (keeps k);
  quiet = still;
}

-- the vault covered
pub vault_formatted : (s : Shape) (a b c d : ℕ → BlockState) → Fills 0 (s.nodes + 1) (head_text s) a b → Fills (first_image s) (vault_need s) (λ k. zero_block) b c → Covers 1 c d → IsFormattedVault s d
vault_formatted s a b c d head images covers = record {
  super = λ o may.
      covers.holds 0 (images.free 0) o may ∙ images.contents 0 (inl (omega arith)) ∙ head.within 0 (omega arith) (omega arith) ∙ ap Some (text_of_vault_super s);
  anchors = λ n some most o may.
      covers.holds n (images.free n) o may ∙ images.contents n (inl (omega arith)) ∙ head.within n (omega arith) (omega arith) ∙ ap Some (text_of_vault_anchor s n some);
  images = λ x low o may.
      covers.holds (first_image s + x) (images.free (first_image s + x)) o may ∙ images.within (first_image s + x) (omega arith) (omega arith);
}

-- a disk through a stop of a port that has no uncovered write
pub disk_stopped : (s : Shape) (a b c : ℕ → BlockState) → IsAllCovered b → Narrows b c → KeepsForeign 1 b c → (b 0 ≡ a 0) ⊎ IsBornDisk s b → (c 0 ≡ a 0) ⊎ IsBornDisk s c
disk_stopped s a b c quiet narrows keeps (inl same) = inl (keeps 0 (no_writer (b 0).writer (quiet 0)) ∙ same)
disk_stopped s a b c quiet narrows keeps (inr born) = inr (born_kept s b c (λ k o some may. narrows k o may) born)

-- a vault of which a stop leaves nothing new
pub vault_kept : (s : Shape) (b c : ℕ → BlockState) → Narrows b c → IsFormattedVault s b → IsFormattedVault s c
vault_kept s b c narrows v = record {
  super = λ o may. v.super o (narrows 0 o may);
  anchors = λ n some most o may. v.anchors n some most o (narrows n o may);
  images = λ x low o may. v.images x low o (narrows (first_image s + x) o may);
}

-- a disk and a vault through a stop of a port that has no uncovered write
pub vault_stopped : (s : Shape) (a b c v w : ℕ → BlockState) → IsAllCovered b → KeepsForeign 1 b c → Narrows v w → (b 0 ≡ a 0) ⊎ IsFormattedVault s v → (c 0 ≡ a 0) ⊎ IsFormattedVault s w
vault_stopped s a b c v w quiet keeps narrows (inl same) = inl (keeps 0 (no_writer (b 0).writer (quiet 0)) ∙ same)
vault_stopped s a b c v w quiet keeps narrows (inr done) = inr (vault_kept s v w narrows done)
