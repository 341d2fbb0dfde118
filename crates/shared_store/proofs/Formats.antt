-- What a format answers, and what it shows, by what was known of block 0.
use Rattle.std.proofs.Common.{◌≡◌, ◌≢◌, ℕ, None, Err, inl, inr, sym, subst}
use Rattle.sd_base.specs.Disk.{DiskState, IsLawful, Rose}
use Rattle.sd_base.specs.Shape.{IsShape}
use Rattle.sd_base.specs.declared.shape.Shape.{Shape}
use Rattle.script_text.specs.declared.reply.Reply.{Reply}
use Rattle.script_text.specs.declared.reply.Reply.TheVariants as says
use Rattle.store_format.specs.Formatted.{TakesDisk}
use Rattle.store_format.specs.Refusal.{FitsSizes, HasSuper, IsFormatRefusal, IsRefusal, IsStopAt, IsSuper, MayHaveSuper, MustHaveSuper, OnFound}
use Rattle.store_nodes.specs.declared.store.Store as nodes
use Rattle.shared_store.specs.Causes.{HasCause}
use Rattle.shared_store.specs.Devices.{both}
use Rattle.shared_store.specs.Store.{Shows, ShowsSeal}
use Rattle.shared_store.specs.StoreState.{Seal, Sealed, Blank, Unsure, AnswersFormat, after_cut, after_format}
use Rattle.shared_store.specs.declared.store.Store.TheVariants.{Closed}

-- ---- what was known of block 0

pub not_sealed : (d : DiskState) (seal : Seal) → ShowsSeal d seal → ¬ (MustHaveSuper d) → seal ≢ Sealed
not_sealed d Sealed shows none e = none shows
not_sealed d Blank shows none e = cc
not_sealed d Unsure shows none e = cc

not_blank : (d : DiskState) (seal : Seal) → ShowsSeal d seal → MayHaveSuper d → seal ≢ Blank
not_blank d Sealed shows some e = cc
not_blank d Blank shows some e = shows some
not_blank d Unsure shows some e = cc

-- ---- and what is known of it now

-- block 0 is covered, and is a super or none
must_have : (d : DiskState) → IsLawful d.block 0 → (d.block 0).writer ≡ None → HasSuper d → MustHaveSuper d
must_have d lawful covered has = (has.0, λ o may. subst IsSuper (sym (lawful.covered covered o may)) has.1)

may_not_have : (d : DiskState) → IsLawful d.block 0 → (d.block 0).writer ≡ None → ¬ (HasSuper d) → ¬ (MayHaveSuper d)
may_not_have d lawful covered none may = none (may.0, subst IsSuper (lawful.covered covered may.1.0 may.1.1) may.1.2)

-- a format in which its port stopped has left what stood there, or the new super
after_stop : (s : Shape) (old new : DiskState) (seal : Seal) → IsShape s → new.size ≡ old.size → TakesDisk s old.block new.block → ShowsSeal old seal → ShowsSeal new (after_cut seal)
after_stop s old new Sealed valid size blocks shows = (
  rw size shows.0,
  λ o may. elim (blocks.super o may) [
    | inl before ↦ shows.1 o before
    | inr is ↦ (s, valid, is)
  ],
)
after_stop s old new Blank valid size blocks shows = tt
after_stop s old new Unsure valid size blocks shows = tt

-- ---- a format that isn't done

-- what it answers, by what was found and by the sizes
pub refused_answer : (s : Shape) (why : Reply) (seal : Seal) (old new vault vault' : DiskState) → ShowsSeal old seal → IsFormatRefusal why old new vault vault'
    → FitsSizes {T = nodes.Store} s (Err why) old.size vault.size → OnFound {T = nodes.Store} (Err why) (MayHaveSuper old) (¬ (MustHaveSuper old)) → AnswersFormat old.size vault.size seal s why
refused_answer s says.Formatted seal old new vault vault' shows cause sizes before = (not_blank old seal shows before, before.0)
refused_answer s (says.SmallDisk need have) seal old new vault vault' shows cause sizes before = (not_sealed old seal shows before, sizes.0, sizes.1, sizes.2)
refused_answer s (says.SmallVault need have) seal old new vault vault' shows cause sizes before = (not_sealed old seal shows before, sizes.0, sizes.1, sizes.2, sizes.3)
refused_answer s says.NoMem seal old new vault vault' shows cause sizes before = (not_sealed old seal shows before, sizes.0, sizes.1)
refused_answer s (says.Stopped n) seal old new vault vault' shows (inl e) sizes before = cc
refused_answer s (says.Stopped n) seal old new vault vault' shows (inr (inl disk)) sizes before = disk.0
refused_answer s (says.Stopped n) seal old new vault vault' shows (inr (inr stop)) sizes before = stop.0
refused_answer s (says.Fault n) seal old new vault vault' shows (inl e) sizes before = cc
refused_answer s (says.Fault n) seal old new vault vault' shows (inr (inl disk)) sizes before = disk.0
refused_answer s (says.Fault n) seal old new vault vault' shows (inr (inr stop)) sizes before = stop.0
refused_answer s why seal old new vault vault' shows (inl e) sizes before = cc
refused_answer s why seal old new vault vault' shows (inr (inl disk)) sizes before = absurd disk
refused_answer s why seal old new vault vault' shows (inr (inr stop)) sizes before = absurd stop

-- what is known of block 0 then
pub refused_shows : (s : Shape) (why : Reply) (seal : Seal) (old new vault vault' : DiskState) → IsShape s → new.size ≡ old.size → TakesDisk s old.block new.block → IsLawful new.block 0
    → ShowsSeal old seal → IsFormatRefusal why old new vault vault' → OnFound {T = nodes.Store} (Err why) (HasSuper new) (¬ (HasSuper new)) → Shows Closed new (after_format seal s why)
refused_shows s says.Formatted seal old new vault vault' valid size blocks lawful shows cause found = must_have new lawful (blocks.quiet 0) found
refused_shows s (says.SmallDisk need have) seal old new vault vault' valid size blocks lawful shows cause found = may_not_have new lawful (blocks.quiet 0) found
refused_shows s (says.SmallVault need have) seal old new vault vault' valid size blocks lawful shows cause found = may_not_have new lawful (blocks.quiet 0) found
refused_shows s says.NoMem seal old new vault vault' valid size blocks lawful shows cause found = may_not_have new lawful (blocks.quiet 0) found
refused_shows s (says.Stopped n) seal old new vault vault' valid size blocks lawful shows cause found = after_stop s old new seal valid size blocks shows
refused_shows s (says.Fault n) seal old new vault vault' valid size blocks lawful shows cause found = after_stop s old new seal valid size blocks shows
refused_shows s why seal old new vault vault' valid size blocks lawful shows (inl e) found = cc
refused_shows s why seal old new vault vault' valid size blocks lawful shows (inr (inl disk)) found = absurd disk
refused_shows s why seal old new vault vault' valid size blocks lawful shows (inr (inr stop)) found = absurd stop

-- why it is answered: where a port stopped, a count of it rose at the disk or at the vault
rose_at : (n : ℕ) (old new : ℕ → ℕ) → n ≡ 1 → Rose (old 1) (new 1) → Rose (old n) (new n)
rose_at n old new one rose = subst (λ k. Rose (old k) (new k)) (sym one) rose

disk_cause : (why : Reply) (old new vault vault' : DiskState) → IsStopAt why old new → HasCause why (both old vault) (both new vault')
disk_cause (says.Stopped n) old new vault vault' stop = inl (rose_at n.0 old.cuts new.cuts stop.0 stop.1)
disk_cause (says.Fault n) old new vault vault' stop = inl (rose_at n.0 old.faults new.faults stop.0 stop.1)
disk_cause why old new vault vault' stop = absurd stop

vault_cause : (why : Reply) (old new vault vault' : DiskState) → IsStopAt why vault vault' → HasCause why (both old vault) (both new vault')
vault_cause (says.Stopped n) old new vault vault' stop = inr (rose_at n.0 vault.cuts vault'.cuts stop.0 stop.1)
vault_cause (says.Fault n) old new vault vault' stop = inr (rose_at n.0 vault.faults vault'.faults stop.0 stop.1)
vault_cause why old new vault vault' stop = absurd stop

test_cause : (why : Reply) (old new vault vault' : DiskState) → IsRefusal why old new → HasCause why (both old vault) (both new vault')
test_cause says.Formatted old new vault vault' is = tt
test_cause (says.SmallDisk need have) old new vault vault' is = tt
test_cause (says.SmallVault need have) old new vault vault' is = tt
test_cause why old new vault vault' is = disk_cause why old new vault vault' is

pub format_cause : (why : Reply) (old new vault vault' : DiskState) → IsFormatRefusal why old new vault vault' → HasCause why (both old vault) (both new vault')
format_cause why old new vault vault' (inl memory) = subst (λ r. HasCause r (both old vault) (both new vault')) (sym memory) tt
format_cause why old new vault vault' (inr (inl test)) = test_cause why old new vault vault' test
format_cause why old new vault vault' (inr (inr stop)) = vault_cause why old new vault vault' stop
