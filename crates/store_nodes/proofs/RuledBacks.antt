-- The record that takes the newest update of a transaction back keeps the rules of its log, and is one that the log owes.
use Rattle.std.specs.Prelude.{◌≡◌, ◌-◌, ◌≤◌, ◌∷◌, [], ℕ, List, Option, Some, None, All, IfSome, refl}
use Rattle.std.proofs.Common.{arith, ap, subst, sym, ◌∙◌}
use Rattle.sd_base.specs.declared.page_op.PageOp.{PageOp}
use Rattle.page_image.specs.declared.page_view.PageView.{PageView}
use Rattle.log_record.specs.declared.record.LogRecord.{LogRecord}
use Rattle.log_record.specs.declared.record.LogRecord.TheVariants.{Begin, Set, Append, Commit, Abort, Restore, Cut, MapUse, MapFree}
use Rattle.log_record.specs.Legal.{IsLegal}
use Rattle.compensation.specs.Finding.{newest, next_behind, record_at, record_before}
use Rattle.compensation.specs.Inverse.{taking_back}
use Rattle.compensation.specs.Left.{uncompensated}
use Rattle.compensation.proofs.LogRecords.{at_place}
use Rattle.node_cache.specs.Cache.{CachedPage}
use Rattle.node_cache.proofs.Finding.{all_at}
use Rattle.txn_core.specs.Seats.{OpenTxn}
use Rattle.txn_core.specs.Undo.{IsPageOf, TakesBack, compensation_of}
use Rattle.recovery_theory.specs.Effect.{OpenUpdate, effect_of, left_of}
use Rattle.recovery_theory.specs.Effect.Effect.{Compensated, Updated}
use Rattle.recovery_theory.specs.Pages.{IsSlotChange}
use Rattle.recovery_theory.specs.Rules as rule
use Rattle.recovery_theory.specs.Rules.{AreLogged, IsOwed, IsRuled, RuleOf, last_record_of, numbers}
use Rattle.recovery_theory.specs.Rules.IsOwed.{a_compensation}
use Rattle.recovery_theory.proofs.OwedRecords.{left_is_logged}
use Rattle.recovery_theory.proofs.RuledLogs.{both_ways}
use Rattle.recovery_theory.proofs.Words.{update_is_said}
use Rattle.store_nodes.proofs.LastRecords.{follows_open}

-- ---- what the record does

-- it names the transaction's last record,
names_last : (t : OpenTxn) (next ident : ℕ) (update rec : LogRecord) → compensation_of t next ident update ≡ Some rec → record_before rec ≡ t.last
names_last t next ident Begin rec is = cc
names_last t next ident (Set txn prev page bsi slot before after) rec is = let made : Restore t.begin t.last next page ident slot before ≡ rec = cc in ap record_before (sym made)
names_last t next ident (Append txn prev page bsi slot present len bytes) rec is = let made : Cut t.begin t.last next page ident slot present len ≡ rec = cc in ap record_before (sym made)
names_last t next ident (Commit txn prev) rec is = cc
names_last t next ident (Abort txn prev) rec is = cc
names_last t next ident (Restore txn prev after page bsi slot value) rec is = cc
names_last t next ident (Cut txn prev after page bsi slot present len) rec is = cc
names_last t next ident (MapUse page bsi place group) rec is = cc
names_last t next ident (MapFree page bsi place group free) rec is = cc

-- changes its page as the update is taken back,
effect_back : (t : OpenTxn) (next : ℕ) (v : PageView) (update rec : LogRecord) (op : PageOp) → compensation_of t next v.ident update ≡ Some rec → IsPageOf update v → taking_back update ≡ Some op → effect_of rec ≡ Compensated t.begin next v.page.0 v.ident op
effect_back t next v Begin rec op is of_page back = cc
effect_back t next v (Set txn prev page bsi slot before after) rec op is of_page back =
    let made : Restore t.begin t.last next page v.ident slot before ≡ rec = cc in
    let same = subst (λ o. IfSome o (λ change. effect_of (Restore t.begin t.last next page v.ident slot before) ≡ Compensated t.begin next page.0 v.ident change)) back refl in
    ap effect_of (sym made) ∙ same ∙ ap (λ y. Compensated t.begin next y.0 v.ident op) of_page
effect_back t next v (Append txn prev page bsi slot present len bytes) rec op is of_page back =
    let made : Cut t.begin t.last next page v.ident slot present len ≡ rec = cc in
    let same = subst (λ o. IfSome o (λ change. effect_of (Cut t.begin t.last next page v.ident slot present len) ≡ Compensated t.begin next page.0 v.ident change)) back refl in
    ap effect_of (sym made) ∙ same ∙ ap (λ y. Compensated t.begin next y.0 v.ident op) of_page
effect_back t next v (Commit txn prev) rec op is of_page back = cc
effect_back t next v (Abort txn prev) rec op is of_page back = cc
effect_back t next v (Restore txn prev after page bsi slot value) rec op is of_page back = cc
effect_back t next v (Cut txn prev after page bsi slot present len) rec op is of_page back = cc
effect_back t next v (MapUse page bsi place group) rec op is of_page back = cc
effect_back t next v (MapFree page bsi place group free) rec op is of_page back = cc

-- which is a change of a slot
slot_back : (update : LogRecord) (op : PageOp) → IsLegal update → taking_back update ≡ Some op → IsSlotChange op
slot_back Begin op legal back = cc
slot_back (Set txn prev page bsi slot before after) op legal back = let low = legal.place in subst (λ o. IfSome o IsSlotChange) back (omega (arith, low))
slot_back (Append txn prev page bsi slot present len bytes) op legal back = let low = legal.place in subst (λ o. IfSome o IsSlotChange) back (omega (arith, low))
slot_back (Commit txn prev) op legal back = cc
slot_back (Abort txn prev) op legal back = cc
slot_back (Restore txn prev next page bsi slot after) op legal back = cc
slot_back (Cut txn prev next page bsi slot present len) op legal back = cc
slot_back (MapUse page bsi place group) op legal back = cc
slot_back (MapFree page bsi place group ident) op legal back = cc

-- an update of a page is of the page that it says
page_of_update : (update : LogRecord) (t page bsi : ℕ) (op back : PageOp) (v : PageView) → effect_of update ≡ Updated t page bsi op back → IsPageOf update v → page ≡ v.page.0
page_of_update Begin t page bsi op back v is of_page = cc
page_of_update (Set txn prev x at slot before after) t page bsi op back v is of_page = let same : x.0 ≡ page = cc in sym same ∙ ap (λ y. y.0) of_page
page_of_update (Append txn prev x at slot present len bytes) t page bsi op back v is of_page = let same : x.0 ≡ page = cc in sym same ∙ ap (λ y. y.0) of_page
page_of_update (Commit txn prev) t page bsi op back v is of_page = cc
page_of_update (Abort txn prev) t page bsi op back v is of_page = cc
page_of_update (Restore txn prev next x at slot after) t page bsi op back v is of_page = cc
page_of_update (Cut txn prev next x at slot present len) t page bsi op back v is of_page = cc
page_of_update (MapUse x at place group) t page bsi op back v is of_page = cc
page_of_update (MapFree x at place group ident) t page bsi op back v is of_page = cc

-- ---- the rules

module _ (first : ℕ) (recs : List LogRecord) (u : OpenTxn) (v : PageView) (pool : List (Option (List ℕ))) (pages : List CachedPage) (rec : LogRecord) (op : PageOp) (takes : TakesBack pool pages first recs u v rec) (back : taking_back takes.undo.update ≡ Some op) where
  abbrev update : LogRecord
  update = takes.undo.update

  abbrev pub next : ℕ
  next = next_behind u.begin first recs takes.undo.update

  pub effect : effect_of rec ≡ Compensated u.begin next v.page.0 v.ident op
  effect = effect_back u next v update rec op takes.is takes.undo.of_page back

  pub of_slot : All IsLegal recs → IsSlotChange op
  of_slot legal = slot_back update op (all_at IsLegal recs (takes.undo.number - first) update legal (at_place first recs takes.undo.number update takes.undo.there).1) back

  module _ (us : List OpenUpdate) (ruled : IsRuled first [] recs) (since : first ≤ u.begin) (going : left_of u.begin first recs None ≡ Some us) (latest : last_record_of u.begin first recs u.begin ≡ u.last) where
    -- the newest update that is left
    newest_left : (undo : OpenUpdate) × (rest : List OpenUpdate) × (us ≡ undo ∷ rest) × (undo.number ≡ takes.undo.number)
    newest_left = by us (ap newest (both_ways first recs u.begin us ruled since going).uncompensated ∙ takes.undo.newest)
      where
        by : (xs : List OpenUpdate) → newest (numbers xs) ≡ Some takes.undo.number → (undo : OpenUpdate) × (rest : List OpenUpdate) × (xs ≡ undo ∷ rest) × (undo.number ≡ takes.undo.number)
        by [] none = cc
        by (x ∷ xs) is = (x, xs, refl, cc)

    took : rule.TakesBack first recs u.begin next v.page.0 op
    took =
        let it = newest_left in
        let stands : AreLogged first recs u.begin (it.0 ∷ it.1) = subst (AreLogged first recs u.begin) it.2 (left_is_logged first recs u.begin us going) in
        let there = stands.0.2 in
        let same : Some stands.0.0 ≡ Some update = sym there ∙ ap (record_at first recs) it.3 ∙ takes.undo.there in
        let one : stands.0.0 ≡ update = cc in
        let does : effect_of update ≡ Updated u.begin it.0.page stands.0.1 it.0.update it.0.back = ap effect_of (sym one) ∙ stands.0.3 in
        let both : Some it.0.back ≡ Some op = sym (update_is_said update u.begin it.0.page stands.0.1 it.0.update it.0.back does).1 ∙ back in
        record {
          undo = it.0;
          rest = it.1;
          newest = going ∙ ap (λ xs. Some xs) it.2;
          page_is = page_of_update update u.begin it.0.page stands.0.1 it.0.update it.0.back v does takes.undo.of_page;
          op_is = cc;
          update = update;
          there = ap (record_at first recs) it.3 ∙ takes.undo.there;
          next_is = refl;
        }

    pub rule_back : RuleOf first recs rec (effect_of rec)
    rule_back = subst (RuleOf first recs rec) (sym effect) (follows_open u.begin first recs rec us ruled going (names_last u next v.ident update rec takes.is ∙ sym latest), λ low. took)

    pub owed_back : IsOwed first recs rec u.begin
    owed_back = a_compensation next v.page.0 v.ident op took.undo took.rest effect took.newest ((both_ways first recs u.begin (took.undo ∷ took.rest) ruled since took.newest).takes_back next v.page.0 op took)
