mod Concluding
