use Rattle.std.proofs.Common.{subst, sym, ◌∙◌}
use Rattle.std.proofs.lemmas.Option.{slice_get-get_or}
use Rattle.mpc_values.specs.declared.values.Word.TheVariants.{Undef}
use Rattle.word_region.specs.Places.{Places, ShowsHeld}
use Rattle.word_region.proofs.Cells.{length-cells, held_outside, held_word}
use Rattle.word_region.proofs.region.Region.into_words.Goals as goal

pub returns : goal.returns
returns c =
    subst (λ (v : Places). ShowsHeld v c.self.inside.words.items) c.self.view_is
    (record {
      end = sym (length-cells c.self.inside.holes.items 0 c.self.inside.words.items);
      held = λ p held. held_word c.self.inside.words.items c.self.inside.holes.items p Undef held ∙ sym (slice_get-get_or c.self.inside.words.items p Undef (held_outside c.self.inside.words.items c.self.inside.holes.items p held).0);
    })
