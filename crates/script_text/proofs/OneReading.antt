-- No line spells two commands, and none that spells one is long.
use Rattle.std.proofs.Common.{◌≡◌, ◌∙◌, ℕ, Bool, true, false, not, ◌&&◌, eqb, eq-eqb, List, [], ◌∷◌, ◌++◌, decimal, codes, sym, ap, refl, arith}
use Rattle.std.specs.List.{list_all}
use Rattle.std.specs.Str.{bytes_eq}
use Rattle.std.proofs.lemmas.Slice.Eq.{bytes_eq-Decides}
use Rattle.std.proofs.lemmas.Bool.{false≢true}
use Rattle.std.proofs.lemmas.Fmt.{decimal_injective}
use Rattle.sd_base.specs.Shape.{IsShape}
use Rattle.sd_base.specs.declared.device.NodeId.{NodeId}
use Rattle.sd_base.specs.declared.names.Key.{Key}
use Rattle.sd_base.specs.declared.names.TxnId.{TxnId}
use Rattle.sd_base.specs.declared.shape.Shape.{Shape}
use Rattle.script_text.specs.Lines.{Lacks}
use Rattle.script_text.specs.Spelling.{spelled, IsValue}
use Rattle.script_text.specs.Words.{spaced, IsNode, node_word, IsTxn, txn_word, IsKey, key_word, shape_words}
use Rattle.script_text.specs.Command.{form_name, arguments, IsCommand, Spells}
use Rattle.script_text.specs.declared.command.Command.{Command}
use Rattle.script_text.specs.declared.command.Command.TheVariants.{Bad, Format, Start, Begin, Get, Put, Append, Del, Commit, Abort, Flush, Dump, Stat}
use Rattle.script_text.proofs.CutLaws.{Lacks-none, Lacks-cons, heads}
use Rattle.script_text.proofs.SpellingLaws.{spelled-injective}
use Rattle.script_text.proofs.WordLaws.{number_without_space, number_without_point, txn_without_space, key_without_space, txn, shape}

-- by a test of each byte
lacks_more : (mark b : ℕ) (text : List ℕ) (p : Bool) → eqb b mark ≡ p → (not p && list_all (λ x. not (eqb x mark)) text) ≡ true → (list_all (λ x. not (eqb x mark)) text ≡ true → Lacks mark text) → Lacks mark (b ∷ text)
lacks_more mark b text true same f more = absurd (false≢true f)
lacks_more mark b text false other f more = Lacks-cons mark b text (λ is. false≢true (sym other ∙ eq-eqb b mark is)) (more f)

pub lacks_by : (mark : ℕ) (text : List ℕ) → list_all (λ b. not (eqb b mark)) text ≡ true → Lacks mark text
lacks_by mark [] e = Lacks-none mark
lacks_by mark (b ∷ text) e = lacks_more mark b text (eqb b mark) refl e (lacks_by mark text)

-- two names that differ
apart : (a b : List ℕ) → a ≡ b → bytes_eq a b ≡ false → ⊥
apart a b e differ = false≢true (sym differ ∙ (bytes_eq-Decides a b).1 e)

-- the name of a form has no space, and other words stand behind it
pub name_without_space : (c : Command) → Lacks 32 (form_name c)
name_without_space c = lacks_by 32 (form_name c) (tested c)
  where
    tested : (d : Command) → list_all (λ b. not (eqb b 32)) (form_name d) ≡ true
    tested Bad = refl
    tested d = refl

pub line_parts : (c : Command) → IsCommand c → spaced (form_name c ∷ arguments c) ≡ form_name c ++ 32 ∷ spaced (arguments c)
line_parts Bad h = absurd h
line_parts c h = refl

-- Of words with one space between, each is known.
node : ℕ → NodeId
node n = record { 0 = n }

key : ℕ → Key
key k = record { 0 = k }

node_one : (n m : NodeId) → IsNode n → IsNode m → node_word n ≡ node_word m → n ≡ m
unfolding node
node_one n m hn hm e = ap node (decimal_injective n.0 m.0 (omega arith) (omega arith) e)

key_one : (k l : Key) → IsKey k → IsKey l → key_word k ≡ key_word l → k ≡ l
unfolding key
key_one k l hk hl e = ap key (decimal_injective k.0 l.0 (omega arith) (omega arith) e)

txn_one : (t u : TxnId) → IsTxn t → IsTxn u → txn_word t ≡ txn_word u → t ≡ u
txn_one t u ht hu e =
    let parts = heads 46 (node_word t.node) (node_word u.node) (decimal t.seat) (decimal u.seat) (number_without_point t.node.0 (omega arith)) (number_without_point u.node.0 (omega arith)) e in
    ap (λ n. txn n t.seat) (node_one t.node u.node ht.0 hu.0 parts.0) ∙ ap (λ s. txn u.node s) (decimal_injective t.seat u.seat (omega arith) (omega arith) parts.1)

record_one : (t u : TxnId) (k l : Key) → IsTxn t → IsTxn u → IsKey k → IsKey l → spaced (txn_word t ∷ key_word k ∷ []) ≡ spaced (txn_word u ∷ key_word l ∷ []) → (t ≡ u) × (k ≡ l)
record_one t u k l ht hu hk hl e =
    let parts = heads 32 (txn_word t) (txn_word u) (key_word k) (key_word l) (txn_without_space t ht) (txn_without_space u hu) e in
    (txn_one t u ht hu parts.0, key_one k l hk hl parts.1)

change_one : (t u : TxnId) (k l : Key) (v w : List ℕ) → IsTxn t → IsTxn u → IsKey k → IsKey l → IsValue v → IsValue w
    → spaced (txn_word t ∷ key_word k ∷ spelled v ∷ []) ≡ spaced (txn_word u ∷ key_word l ∷ spelled w ∷ []) → (t ≡ u) × (k ≡ l) × (v ≡ w)
change_one t u k l v w ht hu hk hl hv hw e =
    let front = heads 32 (txn_word t) (txn_word u) (spaced (key_word k ∷ spelled v ∷ [])) (spaced (key_word l ∷ spelled w ∷ [])) (txn_without_space t ht) (txn_without_space u hu) e in
    let back = heads 32 (key_word k) (key_word l) (spelled v) (spelled w) (key_without_space k hk) (key_without_space l hl) front.1 in
    (txn_one t u ht hu front.0, key_one k l hk hl back.0, spelled-injective v w hv.bytes hw.bytes back.1)

shape_one : (s r : Shape) → IsShape s → IsShape r → spaced (shape_words s) ≡ spaced (shape_words r) → s ≡ r
shape_one s r hs hr e =
    let a = heads 32 (decimal s.nodes) (decimal r.nodes) _ _ (number_without_space s.nodes (omega (arith, hs.nodes))) (number_without_space r.nodes (omega (arith, hr.nodes))) e in
    let b = heads 32 (decimal s.ring) (decimal r.ring) _ _ (number_without_space s.ring (omega (arith, hs.ring))) (number_without_space r.ring (omega (arith, hr.ring))) a.1 in
    let d = heads 32 (decimal s.maps) (decimal r.maps) _ _ (number_without_space s.maps (omega (arith, hs.maps))) (number_without_space r.maps (omega (arith, hr.maps))) b.1 in
    let f = heads 32 (decimal s.keep) (decimal r.keep) _ _ (number_without_space s.keep (omega (arith, hs.keep))) (number_without_space r.keep (omega (arith, hr.keep))) d.1 in
    ap (λ n. shape n s.ring s.maps s.keep s.birth) (decimal_injective s.nodes r.nodes (omega (arith, hs.nodes)) (omega (arith, hr.nodes)) a.0)
    ∙ ap (λ n. shape r.nodes n s.maps s.keep s.birth) (decimal_injective s.ring r.ring (omega (arith, hs.ring)) (omega (arith, hr.ring)) b.0)
    ∙ ap (λ n. shape r.nodes r.ring n s.keep s.birth) (decimal_injective s.maps r.maps (omega (arith, hs.maps)) (omega (arith, hr.maps)) d.0)
    ∙ ap (λ n. shape r.nodes r.ring r.maps n s.birth) (decimal_injective s.keep r.keep (omega (arith, hs.keep)) (omega (arith, hr.keep)) f.0)
    ∙ ap (λ n. shape r.nodes r.ring r.maps r.keep n) (decimal_injective s.birth r.birth (omega (arith, hs.birth)) (omega (arith, hr.birth)) f.1)

-- two commands with one name and the same words behind it are one
one_form : (c d : Command) → IsCommand c → IsCommand d → form_name c ≡ form_name d → spaced (arguments c) ≡ spaced (arguments d) → c ≡ d
one_form Bad d hc hd name rest = absurd hc
one_form (Format s) (Format r) hc hd name rest = ap Format (shape_one s r hc hd rest)
one_form (Format s) d hc hd name rest = absurd (apart (codes "format") (form_name d) name refl)
one_form (Start n) (Start m) hc hd name rest = ap Start (node_one n m hc hd rest)
one_form (Start n) d hc hd name rest = absurd (apart (codes "start") (form_name d) name refl)
one_form (Begin t) (Begin u) hc hd name rest = ap Begin (txn_one t u hc hd rest)
one_form (Begin t) d hc hd name rest = absurd (apart (codes "begin") (form_name d) name refl)
one_form (Get t k) (Get u l) hc hd name rest = let same = record_one t u k l hc.0 hd.0 hc.1 hd.1 rest in ap (λ x. Get x k) same.0 ∙ ap (λ x. Get u x) same.1
one_form (Get t k) d hc hd name rest = absurd (apart (codes "get") (form_name d) name refl)
one_form (Put t k v) (Put u l w) hc hd name rest = let same = change_one t u k l v w hc.0 hd.0 hc.1 hd.1 hc.2 hd.2 rest in ap (λ x. Put x k v) same.0 ∙ ap (λ x. Put u x v) same.1 ∙ ap (λ x. Put u l x) same.2
one_form (Put t k v) d hc hd name rest = absurd (apart (codes "put") (form_name d) name refl)
one_form (Append t k v) (Append u l w) hc hd name rest = let same = change_one t u k l v w hc.0 hd.0 hc.1 hd.1 hc.2 hd.2 rest in ap (λ x. Append x k v) same.0 ∙ ap (λ x. Append u x v) same.1 ∙ ap (λ x. Append u l x) same.2
one_form (Append t k v) d hc hd name rest = absurd (apart (codes "append") (form_name d) name refl)
one_form (Del t k) (Del u l) hc hd name rest = let same = record_one t u k l hc.0 hd.0 hc.1 hd.1 rest in ap (λ x. Del x k) same.0 ∙ ap (λ x. Del u x) same.1
one_form (Del t k) d hc hd name rest = absurd (apart (codes "del") (form_name d) name refl)
one_form (Commit t) (Commit u) hc hd name rest = ap Commit (txn_one t u hc hd rest)
one_form (Commit t) d hc hd name rest = absurd (apart (codes "commit") (form_name d) name refl)
one_form (Abort t) (Abort u) hc hd name rest = ap Abort (txn_one t u hc hd rest)
one_form (Abort t) d hc hd name rest = absurd (apart (codes "abort") (form_name d) name refl)
one_form (Flush n) (Flush m) hc hd name rest = ap Flush (node_one n m hc hd rest)
one_form (Flush n) d hc hd name rest = absurd (apart (codes "flush") (form_name d) name refl)
one_form (Dump n) (Dump m) hc hd name rest = ap Dump (node_one n m hc hd rest)
one_form (Dump n) d hc hd name rest = absurd (apart (codes "dump") (form_name d) name refl)
one_form (Stat n) (Stat m) hc hd name rest = ap Stat (node_one n m hc hd rest)
one_form (Stat n) d hc hd name rest = absurd (apart (codes "stat") (form_name d) name refl)

pub Spells-one : (line : List ℕ) (c d : Command) → Spells line c → Spells line d → c ≡ d
Spells-one line c d p q =
    let whole : form_name c ++ 32 ∷ spaced (arguments c) ≡ form_name d ++ 32 ∷ spaced (arguments d) =
    sym (line_parts c p.numbers) ∙ sym p.text ∙ q.text ∙ line_parts d q.numbers in
    let parts = heads 32 (form_name c) (form_name d) _ _ (name_without_space c) (name_without_space d) whole in
    one_form c d p.numbers q.numbers parts.0 parts.1
