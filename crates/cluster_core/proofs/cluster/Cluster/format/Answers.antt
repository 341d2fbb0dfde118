use Rattle.std.proofs.Common.{arith, inl, inr, ℕ}
use Rattle.record_machine.specs.Meaning.{born}
use Rattle.cluster_core.proofs.Opened.{after_failure, idle_then, narrows_as, opened_is, opened_served, opened_shows, shows_opened}
use Rattle.cluster_core.proofs.OpenedEndures.{endures_opened}
use Rattle.cluster_core.proofs.cluster.Cluster.format.Goals as goal

pub returns-in_err-write_store-clause-super_behind_disk : goal.returns-in_err-write_store-clause-super_behind_disk
returns-in_err-write_store-clause-super_behind_disk g c = after_failure c.from_residual-in_err-write_store.result (λ told.
    let a = (g.D.Disk.state c.args.disk.now).block in
    let b = (g.D.Disk.state c.prepare.new.disk).block in
    let d = (g.D.Disk.state c.write_store.new.disk).block in
    elim (c.in_err-write_store.ensures.super_behind_disk told) [
      | inl same ↦ inl (narrows_as 0 a b d ((c.prepare.ensures.disk_blocks told).outcomes 0) same)
      | inr whole ↦ inr whole
    ])

pub returns-in_err-write_store-clause-super_behind_vault : goal.returns-in_err-write_store-clause-super_behind_vault
returns-in_err-write_store-clause-super_behind_vault g c = after_failure c.from_residual-in_err-write_store.result (λ told vault_told.
    let a = (g.D.Disk.state c.args.disk.now).block in
    let b = (g.D.Disk.state c.prepare.new.disk).block in
    let d = (g.D.Disk.state c.write_store.new.disk).block in
    elim (c.in_err-write_store.ensures.super_behind_vault told vault_told) [
      | inl same ↦ inl (narrows_as 0 a b d ((c.prepare.ensures.disk_blocks told).outcomes 0) same)
      | inr whole ↦ inr whole
    ])

pub returns-clause-ready : goal.returns-clause-ready
returns-clause-ready g c =
    let made = c.in_ok-shared.ensures in
    let first = g.D.Disk.state c.args.disk.now in
    let stopped = g.D.Disk.state c.prepare.new.disk in
    let last = g.D.Disk.state c.write_store.new.disk in
    let vault_last = g.V.Disk.state c.write_store.new.vault in
    let fits = made.sizes.0 in
    let same = c.prepare.ensures.disk.size in
    let more = c.write_store.ensures.disk.size in
    record {
      is = opened_is c.args.s c.in_ok-shared.shared.pool c.in_ok-shared.shared.owners c.idle_nodes.result c.requires.shape made.pool made.owners c.idle_nodes.ensures;
      served = opened_served c.args.s c.idle_nodes.result last vault_last c.idle_nodes.ensures
          (λ k low. g.met.D.Disk.reaches c.write_store.new.disk k (omega (arith, low, fits, same, more)))
          (idle_then first stopped last c.prepare.ensures.disk c.write_store.ensures.disk c.write_store.ensures.disk_stopped)
          (idle_then (g.V.Disk.state c.args.vault.now) (g.V.Disk.state c.prepare.new.vault) vault_last c.prepare.ensures.vault c.write_store.ensures.vault c.write_store.ensures.vault_stopped);
    }

pub returns-clause-shows : goal.returns-clause-shows
returns-clause-shows g c = λ told.
    let s = c.args.s in
    let made = c.in_ok-shared.ensures in
    let b = (g.D.Disk.state c.write_store.new.disk).block in
    let lawful = λ (k : ℕ). g.met.D.Disk.lawful c.write_store.new.disk k told in
    let disk = (c.in_ok-write_store.ensures.disk_done told).born in
    let log = c.law_of_formatted_disks.ensures in
    opened_shows s c.in_ok-shared.shared c.idle_nodes.result b made.pool made.owners made.locks made.reopening c.idle_nodes.ensures
    (shows_opened s b c.requires.shape disk (λ n place last.
    (log.still s n b (c.write_store.ensures.disk_blocks told).quiet, log.log s n b c.requires.shape place.0 last lawful disk, log.no_future s n b place.0 last lawful disk)))

pub returns-clause-endures : goal.returns-clause-endures
returns-clause-endures g c = λ told.
    let s = c.args.s in
    let made = c.in_ok-shared.ensures in
    let b = (g.D.Disk.state c.write_store.new.disk).block in
    let lawful = λ (k : ℕ). g.met.D.Disk.lawful c.write_store.new.disk k told in
    let disk = (c.in_ok-write_store.ensures.disk_done told).born in
    let log = c.law_of_formatted_disks.ensures in
    let quiet = (c.write_store.ensures.disk_blocks told).quiet in
    let shown = opened_shows s c.in_ok-shared.shared c.idle_nodes.result b made.pool made.owners made.locks made.reopening c.idle_nodes.ensures
    (shows_opened s b c.requires.shape disk (λ n place last. (log.still s n b quiet, log.log s n b c.requires.shape place.0 last lawful disk, log.no_future s n b place.0 last lawful disk))) in
    (born s, endures_opened s c.requires.shape b disk (λ n place last. (log.still s n b quiet, log.spread s n b place.0 last lawful disk)) c.in_ok-shared.shared c.idle_nodes.result c.idle_nodes.ensures shown)
