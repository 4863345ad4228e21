use borrow.Author.Rules.{rules}
use Rattle.sporeferry.proofs.outcomes.of_ready.Goals as goal

pub returns : goal.returns
returns c =
    record {
      number = search rules;
      value = search rules;
      ox = search rules;
      oy = search rules;
      oz = search rules;
      half = search rules;
      nx = search rules;
      ny = search rules;
      nz = search rules;
      octants = search rules;
    }
