use Rattle.std.proofs.Common.{None, [], ◌∷◌, ◌++◌, refl, arith, ap, ◌∙◌}
use Rattle.std.specs.List.{filter_map}
use Rattle.std.proofs.lemmas.Option.{slice_get_within}
use Rattle.deed_book.specs.Book.{zones_of}
use Rattle.uma_keg.specs.Keg.{fetches_in, refusal_of}
use Rattle.uma_keg.proofs.FetchAnswers.{end_names, end_refused, end_none, end_zones, end_gives, end_fetched, end_within, end_out, end_buried, refusals_with}
use Rattle.uma_keg.proofs.keg.Keg.fetch.Goals as goal

-- only eight rights can be at home
pub fetch_items-end-requires-clause-in_range : goal.fetch_items-end-requires-clause-in_range
fetch_items-end-requires-clause-in_range g c =
    let keg = c.args.self.now in
    omega (arith, slice_get_within (zones_of keg.rights) c.args.ask.zone None c.requires.exists, keg.zones_law.eight_rights)

pub list_end-requires : goal.list_end-requires
list_end-requires g c =
    let keg = c.args.self.now in
    omega (arith, slice_get_within (zones_of keg.rights) c.args.ask.zone None c.requires.exists, keg.zones_law.eight_rights)

pub returns : goal.returns
returns g c =
    let old = c.args.self.now in
    let mid = c.fetch_items-end.new.self in
    let hooks = c.args.hooks.now in
    let ask = c.args.ask in
    let before = c.args.into.now in
    let after = c.fetch_items-end.new.into in
    let end = c.fetch_items-end.result in
    let given = c.fetch_items-end.ensures.given in
    let none = c.fetch_items-end.ensures.none in
    let kept = c.fetch_items-end.ensures.kept in
    record {
      fetched = end_fetched old mid hooks ask before after _ end (record { places = refl; zones = refl; stored = λ n. refl; buried = refl }) given;
      refused = end_refused old mid hooks ask before after _ end (record { places = refl; zones = refl; stored = λ n. refl; buried = refl }) none;
      given = end_gives old mid hooks ask before after end c.requires.some given;
      names = end_names old mid hooks ask before after end none;
      sums_full = c.fetch_items-end.ensures.sums_full;
      none = end_none old mid hooks ask before after end none;
      size = kept.size;
      within = end_within old mid hooks ask before after end given;
      out = end_out old mid hooks ask before after end given;
      zones = end_zones old mid hooks ask before after end none;
      outs = kept.outs;
      fetches = c.list_end.ensures.listed ∙ ap (λ list. list ++ end ∷ []) (kept.fetches ask.zone);
      other_fetches = λ zone other. c.list_end.ensures.others zone other ∙ kept.fetches zone;
      refusals = ap (filter_map refusal_of) (c.list_end.ensures.listed ∙ ap (λ list. list ++ end ∷ []) (kept.fetches ask.zone)) ∙ refusals_with (fetches_in old ask.zone) end;
      rights = kept.rights;
      limits = kept.limits;
      buried = end_buried old mid hooks ask before after end given;
      same = record {
        table = kept.same.table;
        rights_table = kept.same.rights_table;
        size = kept.same.size;
        per_slab = kept.same.per_slab;
        cap = kept.same.cap;
        reserve = kept.same.reserve;
        hooks = kept.same.hooks;
      };
    }
