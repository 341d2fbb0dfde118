-- How long the line of a command is.
use Rattle.std.proofs.Common.{◌≡◌, ◌+◌, ◌≤◌, ℕ, List, [], ◌∷◌, ◌++◌, length, decimal, ap, lit≤, arith}
use Rattle.std.proofs.lemmas.Fmt.{length-decimal-le}
use Rattle.std.proofs.lemmas.List.{length-append}
use Rattle.sd_base.specs.Shape.{IsShape}
use Rattle.sd_base.specs.declared.device.NodeId.{NodeId}
use Rattle.sd_base.specs.declared.names.Key.{Key}
use Rattle.sd_base.specs.declared.names.TxnId.{TxnId}
use Rattle.sd_base.specs.declared.shape.Shape.{Shape}
use Rattle.script_text.specs.Spelling.{spelled, IsValue}
use Rattle.script_text.specs.Words.{spaced, IsNode, node_word, IsTxn, txn_word, IsKey, key_word, shape_words}
use Rattle.script_text.specs.Command.{form_name, arguments, IsCommand, Spells}
use Rattle.script_text.specs.declared.command.Command.{Command}
use Rattle.script_text.specs.declared.command.Command.TheVariants.{Bad, Format, Start, Begin, Get, Put, Append, Del, Commit, Abort, Flush, Dump, Stat}
use Rattle.script_text.proofs.OneReading.{line_parts}
use Rattle.script_text.proofs.SpellingLaws.{length-spelled-le}

-- two words with a space between
length-two : (a b : List ℕ) → length (a ++ 32 ∷ b) ≡ length a + 1 + length b
length-two a b = omega (arith, length-append a (32 ∷ b))

length-node_word : (n : NodeId) → IsNode n → length (node_word n) ≤ 2
length-node_word n h = length-decimal-le 2 n.0 (omega arith) (omega arith) (omega arith)

length-txn_word : (t : TxnId) → IsTxn t → length (txn_word t) ≤ 4
length-txn_word t h = omega (arith, length-append (node_word t.node) (46 ∷ decimal t.seat), length-node_word t.node h.0, length-decimal-le 1 t.seat (omega arith) (omega arith) (omega arith))

length-key_word : (k : Key) → IsKey k → length (key_word k) ≤ 10
length-key_word k h = length-decimal-le 10 k.0 (omega arith) (omega arith) (omega arith)

length-record : (t : TxnId) (k : Key) → IsTxn t → IsKey k → length (spaced (txn_word t ∷ key_word k ∷ [])) ≤ 15
length-record t k ht hk = omega (arith, length-two (txn_word t) (key_word k), length-txn_word t ht, length-key_word k hk)

length-change : (t : TxnId) (k : Key) (v : List ℕ) → IsTxn t → IsKey k → IsValue v → length (spaced (txn_word t ∷ key_word k ∷ spelled v ∷ [])) ≤ 1008
length-change t k v ht hk hv = omega (arith, length-two (txn_word t) (spaced (key_word k ∷ spelled v ∷ [])), length-two (key_word k) (spelled v), length-txn_word t ht, length-key_word k hk, length-spelled-le v, hv.short)

length-shape : (s : Shape) → IsShape s → length (spaced (shape_words s)) ≤ 1008
length-shape s h = omega (
  arith,
  length-two (decimal s.nodes) (spaced (decimal s.ring ∷ decimal s.maps ∷ decimal s.keep ∷ decimal s.birth ∷ [])),
  length-two (decimal s.ring) (spaced (decimal s.maps ∷ decimal s.keep ∷ decimal s.birth ∷ [])),
  length-two (decimal s.maps) (spaced (decimal s.keep ∷ decimal s.birth ∷ [])),
  length-two (decimal s.keep) (decimal s.birth),
  length-decimal-le 20 s.nodes (omega arith) (omega (arith, h.nodes)) (omega (arith, h.nodes)),
  length-decimal-le 20 s.ring (omega arith) (omega (arith, h.ring)) (omega (arith, h.ring)),
  length-decimal-le 20 s.maps (omega arith) (omega (arith, h.maps)) (omega (arith, h.maps)),
  length-decimal-le 20 s.keep (omega arith) (omega (arith, h.keep)) (omega (arith, h.keep)),
  length-decimal-le 20 s.birth (omega arith) (omega (arith, h.birth)) (omega (arith, h.birth)),
)

length-arguments : (c : Command) → IsCommand c → length (spaced (arguments c)) ≤ 1008
length-arguments Bad h = absurd h
length-arguments (Format s) h = length-shape s h
length-arguments (Start n) h = omega (arith, length-node_word n h)
length-arguments (Begin t) h = omega (arith, length-txn_word t h)
length-arguments (Get t k) h = omega (arith, length-record t k h.0 h.1)
length-arguments (Put t k v) h = length-change t k v h.0 h.1 h.2
length-arguments (Append t k v) h = length-change t k v h.0 h.1 h.2
length-arguments (Del t k) h = omega (arith, length-record t k h.0 h.1)
length-arguments (Commit t) h = omega (arith, length-txn_word t h)
length-arguments (Abort t) h = omega (arith, length-txn_word t h)
length-arguments (Flush n) h = omega (arith, length-node_word n h)
length-arguments (Dump n) h = omega (arith, length-node_word n h)
length-arguments (Stat n) h = omega (arith, length-node_word n h)

length-form_name : (c : Command) → length (form_name c) ≤ 6
length-form_name Bad = omega arith
length-form_name c = lit≤ tt

pub length-line : (line : List ℕ) (c : Command) → Spells line c → length line ≤ 1015
length-line line c h = omega (arith, ap length h.text, ap length (line_parts c h.numbers), length-two (form_name c) (spaced (arguments c)), length-form_name c, length-arguments c h.numbers)
