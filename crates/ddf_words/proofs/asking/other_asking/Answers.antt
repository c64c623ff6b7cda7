use Rattle.ddf_words.proofs.asking.other_asking.Goals as goal

pub asking_at-requires : goal.asking_at-requires
asking_at-requires c = c.requires.wrong_too c.in-Err-Place.place (c.asked.ensures.place c.in-Err-Place.place (cc))
