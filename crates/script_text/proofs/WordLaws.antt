-- Words have no space.
use Rattle.std.proofs.Common.{◌≡◌, ◌≤◌, ◌<◌, ◌^◌, ℕ, List, [], ◌∷◌, Some, decimal, subst, arith}
use Rattle.std.specs.Str.Parse.{AllDigits}
use Rattle.std.specs.Char.{digit_value}
use Rattle.std.proofs.lemmas.Fmt.{decimal_is_IsNumeral}
use Rattle.sd_base.specs.declared.device.NodeId.{NodeId}
use Rattle.sd_base.specs.declared.names.Key.{Key}
use Rattle.sd_base.specs.declared.names.TxnId.{TxnId}
use Rattle.sd_base.specs.declared.shape.Shape.{Shape}
use Rattle.sd_base.specs.Shape.{IsShape}
use Rattle.script_text.specs.Lines.{Lacks}
use Rattle.script_text.specs.Words.{spaced, IsTxn, node_word, txn_word, IsKey, key_word, shape_words}
use Rattle.script_text.specs.Reading.{IsCut}
use Rattle.script_text.proofs.CutLaws.{Lacks-none, Lacks-cons, Lacks-append}

digits_lack : (mark : ℕ) → 10 ≤ digit_value mark → (ds : List ℕ) → AllDigits 10 ds → Lacks mark ds
digits_lack mark above [] h = Lacks-none mark
digits_lack mark above (c ∷ cs) h = Lacks-cons mark c cs (λ e. let P : ℕ → Type 0 = λ b. digit_value b < 10 in absurd (omega (arith, subst P e h.0))) (digits_lack mark above cs h.1)

-- a number has no byte that isn't a digit
pub Lacks-decimal : (mark n : ℕ) → 10 ≤ digit_value mark → n < 2 ^ 64 → Lacks mark (decimal n)
Lacks-decimal mark n above lt = digits_lack mark above (decimal n) (decimal_is_IsNumeral n lt).0.1

pub number_without_space : (n : ℕ) → n < 2 ^ 64 → Lacks 32 (decimal n)
number_without_space n lt = Lacks-decimal 32 n (omega arith) lt

pub number_without_point : (n : ℕ) → n < 2 ^ 64 → Lacks 46 (decimal n)
number_without_point n lt = Lacks-decimal 46 n (omega arith) lt

pub txn_without_space : (t : TxnId) → IsTxn t → Lacks 32 (txn_word t)
txn_without_space t h =
    Lacks-append 32 (node_word t.node) (46 ∷ decimal t.seat) (number_without_space t.node.0 (omega arith))
    (Lacks-cons 32 46 (decimal t.seat) (λ e. absurd (omega arith)) (number_without_space t.seat (omega arith)))

-- a transaction of these parts
abbrev pub txn : NodeId → ℕ → TxnId
txn node seat = record { node = node; seat = seat }

pub txn_of : (node n : NodeId) (seat s : ℕ) → Some node ≡ Some n → Some seat ≡ Some s → Some (txn node seat) ≡ Some (txn n s)
txn_of node n seat s en es = cc

pub key_without_space : (k : Key) → IsKey k → Lacks 32 (key_word k)
key_without_space k h = number_without_space k.0 (omega arith)

-- a transaction, a key and a value
abbrev pub change : TxnId → Key → List ℕ → TxnId × Key × List ℕ
change t k v = (t, k, v)

pub change_of : (txn t : TxnId) (key k : Key) (value v : List ℕ) → Some txn ≡ Some t → Some key ≡ Some k → Some value ≡ Some v → Some (change txn key value) ≡ Some (change t k v)
change_of txn t key k value v et ek ev = cc

-- the numbers of a store
abbrev pub shape : ℕ → ℕ → ℕ → ℕ → ℕ → Shape
shape nodes ring maps keep birth = record { nodes = nodes; ring = ring; maps = maps; keep = keep; birth = birth }

pub shape_of : (nodes n ring l maps m keep v birth b : ℕ) → Some nodes ≡ Some n → Some ring ≡ Some l → Some maps ≡ Some m → Some keep ≡ Some v → Some birth ≡ Some b → Some (shape nodes ring maps keep birth) ≡ Some (shape n l m v b)
shape_of nodes n ring l maps m keep v birth b en el em ev eb = cc

-- the words of a store's numbers, cut off one after another
pub cut_nodes : (s : Shape) → IsShape s → (text : List ℕ) → text ≡ spaced (shape_words s) → IsCut 32 text (decimal s.nodes) (spaced (decimal s.ring ∷ decimal s.maps ∷ decimal s.keep ∷ decimal s.birth ∷ []))
cut_nodes s valid text is = record { whole = is; first = number_without_space s.nodes (omega (arith, valid.nodes)) }

pub cut_ring : (s : Shape) → IsShape s → (text : List ℕ) → text ≡ spaced (decimal s.ring ∷ decimal s.maps ∷ decimal s.keep ∷ decimal s.birth ∷ []) → IsCut 32 text (decimal s.ring) (spaced (decimal s.maps ∷ decimal s.keep ∷ decimal s.birth ∷ []))
cut_ring s valid text is = record { whole = is; first = number_without_space s.ring (omega (arith, valid.ring)) }

pub cut_maps : (s : Shape) → IsShape s → (text : List ℕ) → text ≡ spaced (decimal s.maps ∷ decimal s.keep ∷ decimal s.birth ∷ []) → IsCut 32 text (decimal s.maps) (spaced (decimal s.keep ∷ decimal s.birth ∷ []))
cut_maps s valid text is = record { whole = is; first = number_without_space s.maps (omega (arith, valid.maps)) }

pub cut_keep : (s : Shape) → IsShape s → (text : List ℕ) → text ≡ spaced (decimal s.keep ∷ decimal s.birth ∷ []) → IsCut 32 text (decimal s.keep) (decimal s.birth)
cut_keep s valid text is = record { whole = is; first = number_without_space s.keep (omega (arith, valid.keep)) }
