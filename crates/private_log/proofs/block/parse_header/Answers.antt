use Rattle.std.proofs.Common.{rules, ◌≡◌, ◌*◌, ℕ, List, length, get_or, ◌∙◌, ap, sym, arith}
use Rattle.sd_base.specs.Text.{number_at, bytes_at, put}
use Rattle.private_log.specs.LogBlock.{log_header, log_block, FitsBlock}
use Rattle.private_log.proofs.Blocks.{log_block-number, log_block-count, log_block-parsed, log_block-again}
use Rattle.private_log.proofs.block.parse_header.Goals as goal

-- a block that is one has its number and its count
number_of : (node number : ℕ) (records : List (List ℕ)) (b : List ℕ) → FitsBlock number records → b ≡ log_block node number records → number_at 8 16 b ≡ number
number_of node number records b f is = ap (number_at 8 16) is ∙ log_block-number node number records f

count_of : (node number : ℕ) (records : List (List ℕ)) (b : List ℕ) → FitsBlock number records → b ≡ log_block node number records → get_or b 9 0 ≡ length records
count_of node number records b f is = ap (λ (t : List ℕ). get_or t 9 0) is ∙ log_block-count node number records f

pub returns-then-number-ge-BLOCK_LIMIT-clause-none :
    goal.returns-then-number-ge-BLOCK_LIMIT-clause-none
returns-then-number-ge-BLOCK_LIMIT-clause-none c = λ e number records f is.
    let n : c.u64_at-number.result ≡ number = c.u64_at-number.ensures ∙ number_of _ number records _ f is in
    let k : get_or c.args.block.now 9 0 ≡ length records = count_of _ number records _ f is in
    omega (arith, f.some, f.most, f.below, c.then-number-ge-BLOCK_LIMIT.either)

pub returns-then-eq-clause-found : goal.returns-then-eq-clause-found
returns-then-eq-clause-found c =
    let built : c.put_bytes.new.out ≡ put 64 (bytes_at (672 * get_or c.args.block.now 9 0) 64 c.args.block.now) (log_header c.args.node.0 c.u64_at-number.result (get_or c.args.block.now 9 0)) =
    c.put_bytes.ensures ∙ (ap (λ r. put 64 r c.write_header.new.out) c.part-records.ensures.bytes ∙ ap (put 64 (bytes_at (672 * get_or c.args.block.now 9 0) 64 c.args.block.now)) c.write_header.ensures) in
    let same : c.put_bytes.new.out ≡ c.args.block.now = search rules in
    log_block-parsed c.args.node.0 c.u64_at-number.result (get_or c.args.block.now 9 0) c.args.block.now (omega arith) (omega arith) (omega arith) (omega arith) (sym built ∙ same)

pub returns-then-eq-clause-only : goal.returns-then-eq-clause-only
returns-then-eq-clause-only c = λ number records f is.
    (c.u64_at-number.ensures ∙ number_of _ number records _ f is, count_of _ number records _ f is)

pub returns-else-eq-clause-none : goal.returns-else-eq-clause-none
returns-else-eq-clause-none c = λ e number records f is.
    let n : c.u64_at-number.result ≡ number = c.u64_at-number.ensures ∙ number_of _ number records _ f is in
    let k : get_or c.args.block.now 9 0 ≡ length records = count_of _ number records _ f is in
    let header : c.write_header.new.out ≡ log_header c.args.node.0 number (length records) =
    c.write_header.ensures ∙ (ap (λ m. log_header c.args.node.0 m (get_or c.args.block.now 9 0)) n ∙ ap (log_header c.args.node.0 number) k) in
    let bytes : c.part-records.result.now ≡ bytes_at (672 * length records) 64 c.args.block.now = c.part-records.ensures.bytes ∙ ap (λ m. bytes_at (672 * m) 64 c.args.block.now) k in
    let same : c.put_bytes.new.out ≡ c.args.block.now =
    c.put_bytes.ensures ∙ (ap (λ r. put 64 r c.write_header.new.out) bytes ∙ (ap (put 64 (bytes_at (672 * length records) 64 c.args.block.now)) header ∙ log_block-again c.args.node.0 number records c.args.block.now f is)) in
    search rules
