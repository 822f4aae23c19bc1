use Rattle.std.proofs.Common.{rules, refl, ap}
use Rattle.uma_bucket.specs.Shelved.{shelved_domain}
use Rattle.uma_domain.specs.Domain.{domain_identity}
use Rattle.uma_seat.specs.Seat.{ports_of}
use Rattle.uma_zone.specs.Domains.{domains_home, domains_clock}
use Rattle.uma_zone.proofs.Ported.{port_of_domain, still_ported, still_pushed, sent_plain, sent_loose, sent_sealed, has_port}
use Rattle.uma_zone.proofs.Puts.{plain_listed, loose_listed, sealed_listed}
use Rattle.uma_zone.proofs.domains.ZoneDomains.put.Goals as goal

pub port-requires : goal.port-requires
port-requires g c = has_port (domains_home c.args.self.now) (domains_clock c.args.self.now) c.args.seat.now c.args.shelved c.in-Plain.domain c.requires.home c.requires.can (ap shelved_domain c.in-Plain.is)

pub put_plain-requires-clause-port : goal.put_plain-requires-clause-port
put_plain-requires-clause-port g c = port_of_domain c.args.self.now (ports_of c.args.seat.now) c.in-Plain.domain c.port.result.now c.get.result.now c.port.ensures.port c.get.ensures.named c.requires.ports

pub put_plain-requires-clause-bucket : goal.put_plain-requires-clause-bucket
put_plain-requires-clause-bucket g c =
    plain_listed (domains_home c.args.self.now) (domain_identity c.get.result.now).home (domains_clock c.args.self.now) c.args.shelved c.in-Plain.domain c.in-Plain.bucket c.in-Plain.is c.get.ensures.of_zone.same_home c.requires.can

pub put_loose-requires-clause-port : goal.put_loose-requires-clause-port
put_loose-requires-clause-port g c = port_of_domain c.args.self.now (ports_of c.args.seat.now) c.in-Loose.domain c.port-in-Loose.result.now c.get-in-Loose.result.now c.port-in-Loose.ensures.port c.get-in-Loose.ensures.named c.requires.ports

pub put_loose-requires-clause-bucket : goal.put_loose-requires-clause-bucket
put_loose-requires-clause-bucket g c =
    loose_listed (domains_home c.args.self.now) (domain_identity c.get-in-Loose.result.now).home (domains_clock c.args.self.now) c.args.shelved c.in-Loose.domain c.in-Loose.bucket c.in-Loose.is c.get-in-Loose.ensures.of_zone.same_home c.requires.can

pub put_sealed-requires-clause-port : goal.put_sealed-requires-clause-port
put_sealed-requires-clause-port g c = port_of_domain c.args.self.now (ports_of c.args.seat.now) c.in-Sealed.domain c.port-in-Sealed.result.now c.get-in-Sealed.result.now c.port-in-Sealed.ensures.port c.get-in-Sealed.ensures.named c.requires.ports

pub put_sealed-requires-clause-bucket : goal.put_sealed-requires-clause-bucket
put_sealed-requires-clause-bucket g c =
    sealed_listed (domains_home c.args.self.now) (domain_identity c.get-in-Sealed.result.now) (domains_clock c.args.self.now) c.args.shelved c.in-Sealed.domain c.in-Sealed.bucket c.in-Sealed.is c.get-in-Sealed.ensures.of_zone.same_home
    c.get-in-Sealed.ensures.of_zone.same_clock c.requires.can

pub returns-in-Ok : goal.returns-in-Ok
returns-in-Ok g c = record {
  back = tt;
  ports = still_ported c.args.self.now (ports_of c.args.seat.now) c.in-Plain.domain c.port.result.now c.put_plain.new.port c.port.ensures.port c.put_plain.ensures.port c.requires.ports;
  sent = (_, sent_plain c.args.self.now (ports_of c.args.seat.now) c.args.shelved c.in-Plain.domain c.in-Plain.bucket c.get.result.now c.port.result.now c.put_plain.new.port c.in-Plain.is c.get.ensures.named c.port.ensures.port c.in-Ok.ensures.put, refl);
  still = tt;
  kept = search rules;
  rack = search rules;
}

pub returns-in-Err : goal.returns-in-Err
returns-in-Err g c = record {
  back = search rules;
  ports = still_ported c.args.self.now (ports_of c.args.seat.now) c.in-Plain.domain c.port.result.now c.put_plain.new.port c.port.ensures.port c.put_plain.ensures.port c.requires.ports;
  sent = tt;
  still = still_pushed (ports_of c.args.seat.now) c.in-Plain.domain c.port.result.now c.put_plain.new.port c.port.ensures.port c.in-Err.ensures.still;
  kept = search rules;
  rack = search rules;
}

pub returns-in-Ok-put_loose : goal.returns-in-Ok-put_loose
returns-in-Ok-put_loose g c = record {
  back = tt;
  ports = still_ported c.args.self.now (ports_of c.args.seat.now) c.in-Loose.domain c.port-in-Loose.result.now c.put_loose.new.port c.port-in-Loose.ensures.port c.put_loose.ensures.port c.requires.ports;
  sent = (_, sent_loose c.args.self.now (ports_of c.args.seat.now) c.args.shelved c.in-Loose.domain c.in-Loose.bucket c.get-in-Loose.result.now c.port-in-Loose.result.now c.put_loose.new.port c.in-Loose.is c.get-in-Loose.ensures.named c.port-in-Loose.ensures.port c.in-Ok-put_loose.ensures.put, refl);
  still = tt;
  kept = search rules;
  rack = search rules;
}

pub returns-in-Err-put_loose : goal.returns-in-Err-put_loose
returns-in-Err-put_loose g c = record {
  back = search rules;
  ports = still_ported c.args.self.now (ports_of c.args.seat.now) c.in-Loose.domain c.port-in-Loose.result.now c.put_loose.new.port c.port-in-Loose.ensures.port c.put_loose.ensures.port c.requires.ports;
  sent = tt;
  still = still_pushed (ports_of c.args.seat.now) c.in-Loose.domain c.port-in-Loose.result.now c.put_loose.new.port c.port-in-Loose.ensures.port c.in-Err-put_loose.ensures.still;
  kept = search rules;
  rack = search rules;
}

pub returns-in-Ok-put_sealed : goal.returns-in-Ok-put_sealed
returns-in-Ok-put_sealed g c = record {
  back = tt;
  ports = still_ported c.args.self.now (ports_of c.args.seat.now) c.in-Sealed.domain c.port-in-Sealed.result.now c.put_sealed.new.port c.port-in-Sealed.ensures.port c.put_sealed.ensures.port c.requires.ports;
  sent = (_, sent_sealed c.args.self.now (ports_of c.args.seat.now) c.args.shelved c.in-Sealed.domain c.in-Sealed.bucket c.get-in-Sealed.result.now c.port-in-Sealed.result.now c.put_sealed.new.port c.in-Sealed.is c.get-in-Sealed.ensures.named c.port-in-Sealed.ensures.port c.in-Ok-put_sealed.ensures.put, refl);
  still = tt;
  kept = search rules;
  rack = search rules;
}

pub returns-in-Err-put_sealed : goal.returns-in-Err-put_sealed
returns-in-Err-put_sealed g c = record {
  back = search rules;
  ports = still_ported c.args.self.now (ports_of c.args.seat.now) c.in-Sealed.domain c.port-in-Sealed.result.now c.put_sealed.new.port c.port-in-Sealed.ensures.port c.put_sealed.ensures.port c.requires.ports;
  sent = tt;
  still = still_pushed (ports_of c.args.seat.now) c.in-Sealed.domain c.port-in-Sealed.result.now c.put_sealed.new.port c.port-in-Sealed.ensures.port c.in-Err-put_sealed.ensures.still;
  kept = search rules;
  rack = search rules;
}
