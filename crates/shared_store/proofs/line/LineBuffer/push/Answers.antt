use Rattle.std.proofs.Common.{◌≤◌, ◌<◌, ◌∷◌, [], ◌∙◌, length, refl, arith}
use Rattle.std.proofs.lemmas.Bool.Decides.{nat_tests}
use Rattle.std.proofs.lemmas.List.{length-append}
use Rattle.shared_store.proofs.Buffering.{front_stays, front_grows, line_fills, line_fits}
use Rattle.shared_store.proofs.line.LineBuffer.push.Goals as goal

pub returns-then-is_full : goal.returns-then-is_full
returns-then-is_full c = λ line holds.
    let full : 1024 ≤ length c.args.self.now.kept.items = grind (arith, nat_tests) in
    let fills = line_fills line c.args.self.now.kept.items holds.kept full in
    record {
      kept = front_stays line c.args.self.now.kept.items c.args.b holds.kept full;
      short = λ le. absurd (omega (arith, fills, length-append line (c.args.b ∷ [])));
      long = λ lt. refl;
    }

pub returns-else-is_full : goal.returns-else-is_full
returns-else-is_full c = λ line holds.
    let within = c.is_full.ensures.fits in
    let room : length c.args.self.now.kept.items < 1024 = grind (arith, nat_tests) in
    let fits = line_fits line c.args.self.now.kept.items holds.kept room in
    record {
      kept = c.push.ensures.items ∙ front_grows line c.args.self.now.kept.items c.args.b holds.kept room;
      short = λ le. holds.short (omega (arith, fits));
      long = λ lt. absurd (omega (arith, fits, length-append line (c.args.b ∷ [])));
    }
