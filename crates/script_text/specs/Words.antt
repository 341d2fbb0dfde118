-- The words of lines and replies.
use Rattle.std.specs.Prelude.{◌≤◌, ℕ, List, [], ◌∷◌, ◌++◌, codes, decimal}
use Rattle.std.specs.List.{join_with_byte}
use Rattle.sd_base.specs.declared.device.NodeId.{NodeId}
use Rattle.sd_base.specs.declared.names.Key.{Key}
use Rattle.sd_base.specs.declared.names.TxnId.{TxnId}
use Rattle.sd_base.specs.declared.shape.Shape.{Shape}

-- a number from the one to the other
abbrev pub IsWithin : ℕ → ℕ → ℕ → Type 0
IsWithin low high n = (low ≤ n) × (n ≤ high)

-- words with one space between
abbrev pub spaced : List (List ℕ) → List ℕ
spaced words = join_with_byte 32 words

-- the number of a node
abbrev pub IsNode : NodeId → Type 0
IsNode n = IsWithin 1 16 n.0

abbrev pub node_word : NodeId → List ℕ
node_word n = decimal n.0

-- a transaction: its node, a point, and its seat
abbrev pub IsTxn : TxnId → Type 0
IsTxn t = IsNode t.node × (t.seat ≤ 7)

abbrev pub txn_word : TxnId → List ℕ
txn_word t = node_word t.node ++ (codes "." ++ decimal t.seat)

-- a key
abbrev pub IsKey : Key → Type 0
IsKey k = k.0 ≤ 4294967295

abbrev pub key_word : Key → List ℕ
key_word k = decimal k.0

-- the numbers of a shape
abbrev pub shape_words : Shape → List (List ℕ)
shape_words s = decimal s.nodes ∷ decimal s.ring ∷ decimal s.maps ∷ decimal s.keep ∷ decimal s.birth ∷ []
