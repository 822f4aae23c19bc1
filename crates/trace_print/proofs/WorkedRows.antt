-- The canonical text on worked rows.
use Rattle.std.proofs.Common.{◌≡◌, [], ◌∷◌, None, Some, refl, false}
use Rattle.std.specs.Prelude.{codes}
use Rattle.std.specs.Fmt.{digits}
use Rattle.trace_text.specs.declared.trace.Between.TheVariants.{Give, SetMax}
use Rattle.trace_text.specs.declared.trace.ZoneHead.{ZoneHead}
use Rattle.trace_text.specs.declared.trace.ZoneKind.TheVariants.{Plain}
use Rattle.trace_text.specs.declared.trace.Op.TheVariants.{Alloc, Free, Away, Back}
use Rattle.trace_text.specs.declared.trace.Trace.{Trace}
use Rattle.trace_text.specs.declared.trace.Version.TheVariants as versions
use Rattle.trace_print.specs.CanonicalText.{canonical_text}

box : ZoneHead
box = record { name = codes "box"; parent = None; size = 256; slabs = 4; bucket = 4; limit = 0; reserve = 0; kind = Plain }

three_allocs_and_a_free : Trace
three_allocs_and_a_free = record {
  version = versions.One;
  head = record { workers = 1; domains = 1; clock = None; detail = false; zones = box ∷ []; names = None };
  rounds = record { ops = (Alloc 0 0 0 false ∷ Alloc 0 1 0 false ∷ Alloc 0 2 0 false ∷ Free 1 ∷ []) ∷ []; between = [] } ∷ [];
}

text_of_three_allocs_and_a_free : canonical_text three_allocs_and_a_free
    ≡ codes "uma 1\nworkers 1\ndomains 1\nzone box 256 4 4 0 0 plain\nalloc 0 box 0\nalloc 0 box 1\nalloc 0 box 2\nfree 0 1\nend\n"
unfolding digits three_allocs_and_a_free box
text_of_three_allocs_and_a_free = refl

-- version 2, with a limit that changes and a move between two rounds
a_lower_limit : Trace
a_lower_limit = record {
  version = versions.Two;
  head = record { workers = 1; domains = 1; clock = None; detail = false; zones = box ∷ []; names = None };
  rounds = record { ops = (Alloc 0 0 0 false ∷ []) ∷ []; between = SetMax 0 2 ∷ Give 0 0 0 1 ∷ [] } ∷ record { ops = (Free 1 ∷ []) ∷ []; between = [] } ∷ [];
}

text_of_a_lower_limit : canonical_text a_lower_limit
    ≡ codes "uma 2\nworkers 1\ndomains 1\nzone box 256 4 4 0 0 plain\nalloc 0 box 0\nround\nsetmax box 2\ngive 0 0 0 1\nfree 0 1\nend\n"
unfolding digits a_lower_limit box
text_of_a_lower_limit = refl

-- version 3, with a worker that leaves, is given to while it is away, and comes back
away_and_back : Trace
away_and_back = record {
  version = versions.Three;
  head = record { workers = 2; domains = 1; clock = Some (record { start = 1; window = 8 }); detail = false; zones = box ∷ []; names = None };
  rounds =
      record { ops = (Alloc 0 0 0 false ∷ []) ∷ (Away ∷ []) ∷ []; between = Give 0 0 1 7 ∷ [] }
      ∷ record { ops = [] ∷ (Back ∷ Free 7 ∷ []) ∷ []; between = [] } ∷ [];
}

text_of_away_and_back : canonical_text away_and_back
    ≡ codes "uma 3\nworkers 2\ndomains 1\nclock 1 8\nzone box 256 4 4 0 0 plain\nalloc 0 box 0\naway 1\nround\ngive 0 0 1 7\nback 1\nfree 1 7\nend\n"
unfolding digits away_and_back box
text_of_away_and_back = refl
