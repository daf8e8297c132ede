use Rattle.program_session.proofs.Lines.{come_first, piece_held, piece_counts, piece_length, all_held, all_counts}
use Rattle.program_session.proofs.Known.{known_after, known_gives, known_count}
use Rattle.std.proofs.lemmas.Result.{err_from_is_err_and}
use Rattle.std.proofs.Common.{◌≡◌, ◌+◌, ◌-◌, ◌<◌, length, take, drop, sym, refl, ◌∙◌, arith}
use Rattle.program_session.specs.Pieces.{gives}
use Rattle.program_session.proofs.running.take_all.Goals as goal

pub loop-start-init : goal.loop-start-init
unfolding gives
loop-start-init c = (omega arith, c.requires.kept_in_bounds, c.requires.roomy, (come_first c.args.p.now c.args.line.now c.args.kept c.args.chunk.now c.args.out.now c.requires.kept_in_bounds c.requires.roomy).holds, refl, refl, refl, known_count _ _ _ c.requires.known)

pub take_lines-progress-requires : goal.take_lines-progress-requires
take_lines-progress-requires c = let d = c.loop-start in record { kept_in_bounds = d.invariant.1; roomy = d.invariant.2 }

pub write_piece-requires : goal.write_piece-requires
write_piece-requires c =
    let d = c.loop-start in
    let t = c.take_lines-progress in
    known_gives _ _ _ (known_after _ _ _ c.requires.known _ _ _ _ d.invariant.3 d.invariant.7) _ _ t.ensures.puts

pub returns-in_err-write_piece : goal.returns-in_err-write_piece
returns-in_err-write_piece c =
    let d = c.loop-start in
    let t = c.take_lines-progress in
    let e = err_from_is_err_and c.from_residual.result c.from_residual.ensures.1 in
    rw e.1 (d.start + t.result.taken, (piece_held _ c.args.chunk.now d.start _ _ d.invariant.3 t.result.taken _ _ t.ensures.holds).pictures)

pub loop-start-smaller : goal.loop-start-smaller
loop-start-smaller c =
    let d = c.loop-start in
    let t = c.take_lines-progress in
    let l : length (take (length c.args.chunk.now - d.start) (drop d.start c.args.chunk.now)) ≡ length c.args.chunk.now - d.start = piece_length c.args.chunk.now d.start in
    let m : 0 < t.result.taken = t.ensures.some (rw l (omega (arith, c.loop-start-test.true))) in
    omega (arith, c.loop-start-test.true)

pub loop-start-preserved : goal.loop-start-preserved
loop-start-preserved c =
    let d = c.loop-start in
    let t = c.take_lines-progress in
    let k = t.auto in
    let l : length (take (length c.args.chunk.now - d.start) (drop d.start c.args.chunk.now)) ≡ length c.args.chunk.now - d.start = piece_length c.args.chunk.now d.start in
    (omega (arith, t.ensures.inside), t.ensures.short, record { for_line = d.invariant.2.for_line ∙ sym k.line; for_answer = omega (arith, d.invariant.2.for_answer, k.out) }, piece_held _ c.args.chunk.now d.start _ _ d.invariant.3 t.result.taken _ _ t.ensures.holds, k.p ∙ d.invariant.4, k.line ∙ d.invariant.5, k.out ∙ d.invariant.6, piece_counts _ c.args.chunk.now d.start _ _ d.invariant.3 t.result.taken _ _ _ _ d.invariant.7 t.ensures.puts c.write_piece.ensures)

pub returns : goal.returns
returns c = let d = c.loop-start in (d.invariant.1, all_held _ _ _ _ _ d.invariant.3 c.loop-start-test.false, all_counts _ _ _ _ _ d.invariant.3 c.loop-start-test.false _ _ d.invariant.7)
