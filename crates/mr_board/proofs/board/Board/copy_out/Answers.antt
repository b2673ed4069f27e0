use Rattle.std.proofs.Common.{◌≡◌, ◌+◌, ◌*◌, ◌≤◌, ◌<◌, ap, ◌∙◌, arith}
use Rattle.mr_board.specs.Terms.{words_of, symbol_words}
use Rattle.mr_board.specs.Boards.{board_terms}
use Rattle.mr_board.proofs.Sizes.{level-fits, level-inside}
use Rattle.mr_board.proofs.Copying.{copied-more, copied-all}
use Rattle.mr_board.proofs.board.Board.copy_out.Goals as goal

pub overflow_mul-first : goal.overflow_mul-first
overflow_mul-first c =
    let b = c.args.self.now in
    let level : c.from.result * b.symbol ≡ c.args.level * b.symbol = ap (λ n. n * b.symbol) c.from.ensures in
    let fits : c.args.level * b.symbol + b.symbol ≤ words_of (board_terms b) =
    level-fits (board_terms b).head (board_terms b).plans c.args.level b.symbol b.symbol_named c.requires.level in
    omega (arith, level, fits, b.words_named, b.few_words)

pub overflow_add-first : goal.overflow_add-first
overflow_add-first c =
    let b = c.args.self.now in
    let level : c.from.result * b.symbol ≡ c.args.level * b.symbol = ap (λ n. n * b.symbol) c.from.ensures in
    let fits : c.args.level * b.symbol + b.symbol ≤ words_of (board_terms b) =
    level-fits (board_terms b).head (board_terms b).plans c.args.level b.symbol b.symbol_named c.requires.level in
    omega (arith, level, fits, b.words_named, b.few_words, c.loop-number-test.true)

pub word-word-requires-clause-index : goal.word-word-requires-clause-index
word-word-requires-clause-index c =
    let b = c.args.self.now in
    let level : c.from.result * b.symbol ≡ c.args.level * b.symbol = ap (λ n. n * b.symbol) c.from.ensures in
    let inside = level-inside (board_terms b).head (board_terms b).plans c.args.level c.loop-number.number b.symbol b.symbol_named c.requires.level c.loop-number-test.true in
    omega (arith, level, inside)

pub loop-number-preserved : goal.loop-number-preserved
loop-number-preserved c =
    let b = c.args.self.now in
    let level : c.from.result * b.symbol ≡ c.args.level * b.symbol = ap (λ n. n * b.symbol) c.from.ensures in
    let inside : c.from.result * b.symbol + c.loop-number.number < words_of (board_terms b) =
    omega (arith, level, level-inside (board_terms b).head (board_terms b).plans c.args.level c.loop-number.number b.symbol b.symbol_named c.requires.level c.loop-number-test.true) in
    let whole : 8 * symbol_words (board_terms b).head ≡ (board_terms b).head.symbol_bytes = omega (arith, b.whole_words, b.symbol_named) in
    record {
      pass = c.word-word.ensures.pass;
      same = c.word-word.ensures.same ∙ c.loop-number.invariant.same;
      bytes = λ l plans bytes e.
          copied-more (board_terms b) b.plans whole l plans bytes e c.args.stripe
          (c.from.result * b.symbol) c.loop-number.number c.word-word.result c.loop-number.dst c.put_word.new.dst c.requires.stripe inside c.word-word.type_inv
          c.word-word.ensures.right c.put_word.ensures (c.loop-number.invariant.bytes l plans bytes e);
    }

pub returns-clause-mended : goal.returns-clause-mended
returns-clause-mended c =
    let b = c.args.self.now in
    let level : c.from.result * b.symbol ≡ c.args.level * b.symbol = ap (λ n. n * b.symbol) c.from.ensures in
    let whole : 8 * symbol_words (board_terms b).head ≡ (board_terms b).head.symbol_bytes = omega (arith, b.whole_words, b.symbol_named) in
    let all : c.loop-number.number ≡ b.symbol = omega (arith, c.loop-number.auto.number-end, c.loop-number-test.false) in
    λ l plans bytes e. copied-all (board_terms b) b.plans whole l plans bytes e c.args.stripe c.args.level b.symbol
    (c.from.result * b.symbol) c.loop-number.number c.loop-number.dst c.requires.level b.symbol_named level all (c.loop-number.auto.dst ∙ c.requires.room)
    (c.loop-number.invariant.bytes l plans bytes e)
