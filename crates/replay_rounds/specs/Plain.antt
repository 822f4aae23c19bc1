-- What stands for a cache's sizes where no names are served (own): those of one row, which binds nothing.
use Rattle.replay_worker.specs.NameSizes.{NameSizes}

abbrev pub no_sizes : NameSizes
no_sizes = record { rows = 1; slabs = 1; bucket = 4; domains = 1 }
