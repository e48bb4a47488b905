mod AloneDriven
mod Clean
