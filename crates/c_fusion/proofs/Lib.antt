mod Sensors
mod Fusions
