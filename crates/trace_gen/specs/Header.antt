-- The header of a made trace (own), and the whole trace.
use Rattle.std.specs.Prelude.{ℕ, List, [], ◌∷◌, min, codes, false, Some, None}
use Rattle.std.specs.List.{slice_split}
use Rattle.trace_text.specs.declared.trace.Head.{Head}
use Rattle.trace_text.specs.declared.trace.ZoneHead.{ZoneHead}
use Rattle.trace_text.specs.declared.trace.ZoneKind.{ZoneKind}
use Rattle.trace_text.specs.declared.trace.ZoneKind.TheVariants.{Plain, Smr}
use Rattle.trace_text.specs.declared.trace.Trace.{Trace}
use Rattle.trace_text.specs.declared.trace.Version.TheVariants as versions
use Rattle.trace_text.specs.Grammar.{is_round, rounds_in}
use Rattle.trace_gen.specs.Generator.{begun, drawn_lines}

-- `zone NAME SIZE 1024 16 0 0 KIND`
abbrev pub zone_of : List ℕ → ℕ → ZoneKind → ZoneHead
zone_of name size kind = record { name = name; parent = None; size = size; slabs = 1024; bucket = 16; limit = 0; reserve = 0; kind = kind }

-- two domains at most, `clock 1 1073741824`, three zones, and `names dir 64 64 16`
abbrev pub made_head : ℕ → Head
made_head workers = record {
  workers = workers;
  domains = min workers 2;
  clock = Some (record { start = 1; window = 1073741824 });
  detail = false;
  zones = zone_of (codes "alpha") 64 Plain ∷ zone_of (codes "beta") 32 Plain ∷ zone_of (codes "gamma") 64 Smr ∷ [];
  names = Some (record { name = codes "dir"; rows = 64; slabs = 64; bucket = 16 });
}

-- the trace of the header and of the lines that so many steps from this seed draw
abbrev pub made_trace : ℕ → ℕ → ℕ → Trace
made_trace seed workers ops = record {
  version = versions.One;
  head = made_head workers;
  rounds = rounds_in workers (slice_split is_round (drawn_lines workers ops (begun seed workers)));
}
